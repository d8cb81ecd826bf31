pub mod Keeping
pub mod Owing
pub mod Refreshes
pub mod Slicing
pub mod Spares
pub mod Stages
pub mod Steps
pub mod Sums
