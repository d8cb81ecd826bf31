pub mod Keeping
pub mod Sparing
