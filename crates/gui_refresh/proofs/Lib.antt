pub mod Agreement
pub mod Drawing
pub mod Owing
pub mod Painting
pub mod Pumps
pub mod Slicing
pub mod Steps
pub mod Sums
