pub mod Fields
pub mod Refusals
pub mod Places
pub mod Themes
pub mod Pages
pub mod Held
