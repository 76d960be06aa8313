pub mod Encoded
pub mod DriveStatus
pub mod Response
pub mod RoundTrip
pub mod Cases
pub mod WrongAnswers
