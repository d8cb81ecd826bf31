pub mod Animated
pub mod Columns
pub mod Sliding
pub mod Stepped
pub mod Touching
pub mod Turning
pub mod Values
