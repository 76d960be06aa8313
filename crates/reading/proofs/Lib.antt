pub mod Only
pub mod WrongAnswers
