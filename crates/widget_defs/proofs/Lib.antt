pub mod Bars
pub mod Captions
pub mod Shares
