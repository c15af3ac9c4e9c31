pub mod Columns
pub mod Written
