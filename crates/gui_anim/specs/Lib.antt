pub mod Anims
pub mod Kept
