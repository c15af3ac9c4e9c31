pub mod Fits
pub mod Examples
