pub mod Offsets
pub mod Scrolling
