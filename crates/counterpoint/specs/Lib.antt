pub mod Interval
pub mod Refusal
pub mod Kind
pub mod Moments
pub mod Books
