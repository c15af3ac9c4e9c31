pub mod Examples
pub mod Triangles
