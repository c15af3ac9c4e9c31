pub mod Agreeing
pub mod Checks
pub mod Looking
pub mod Placed
pub mod Rounds
