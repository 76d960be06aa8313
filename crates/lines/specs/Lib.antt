pub mod Line
pub mod Moves
pub mod Follower
pub mod Traces
pub mod Reading
pub mod Turns
pub mod Plain
pub mod WrongAnswers
