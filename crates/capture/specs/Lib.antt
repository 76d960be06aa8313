pub mod Record
pub mod Capture
pub mod Encoding
pub mod RoundTrip
pub mod Cases
pub mod WrongAnswers
