pub mod Books
pub mod Changes
pub mod Names
pub mod Spelling
pub mod Steps
pub mod Words
