pub mod Answered
pub mod Rows
