pub mod Answering
pub mod Engines
pub mod Laws
pub mod Measured
pub mod Orders
pub mod Stopping
pub mod Bests
