pub mod Ending
pub mod Greatest
