pub mod Listing
pub mod Refused
