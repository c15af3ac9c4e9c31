pub mod Motion
pub mod Free
pub mod Strict
pub mod Vertical
pub mod Examples
