pub mod Curves
pub mod Shares
pub mod Values
