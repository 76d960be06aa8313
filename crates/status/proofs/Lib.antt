pub mod Bits
pub mod Only
pub mod Exactly
pub mod Foreign
pub mod Decoding
pub mod RoundTrip
pub mod Cases
pub mod WrongAnswers
