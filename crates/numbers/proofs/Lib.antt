pub mod Only
pub mod Cases
pub mod WrongAnswers
