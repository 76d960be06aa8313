pub mod Text
pub mod Line
pub mod Run
pub mod Part
pub mod Report
pub mod Cases
pub mod WrongAnswers
-- what the private functions go by
pub mod Told
