pub mod Algebra
pub mod Movements
pub mod Numbers
pub mod Possibles
pub mod Steps
