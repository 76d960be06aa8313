pub mod State
pub mod Event
pub mod Run
pub mod Part
pub mod Stops
pub mod Power
pub mod Exactly
pub mod WrongAnswers
pub mod Words
-- what the private functions go by: nothing that a reader of the rules needs
pub mod Unsound
pub mod Open
pub mod Fit
pub mod Turn
pub mod Copy
