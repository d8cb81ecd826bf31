pub mod Changing
pub mod Counting
pub mod Empty
pub mod Keeping
pub mod Places
pub mod Ranges
pub mod Winners
