pub mod Barred
pub mod Fronts
pub mod Runs
pub mod Telling
