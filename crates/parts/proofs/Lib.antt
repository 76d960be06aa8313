pub mod ByBits
pub mod OnPaper
pub mod Bits
pub mod Partners
pub mod WrongAnswers
pub mod Bounds
