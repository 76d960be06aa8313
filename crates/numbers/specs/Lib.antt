pub mod Number
pub mod Cases
pub mod WrongAnswers
