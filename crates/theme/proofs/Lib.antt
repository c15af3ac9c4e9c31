pub mod Asked
pub mod Pages
pub mod Passing
pub mod Rows
pub mod Shown
pub mod Written
