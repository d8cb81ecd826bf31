pub mod Bounds
pub mod Looks
pub mod Nears
pub mod Texts
