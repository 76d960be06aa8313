pub mod Fits
pub mod Entry
