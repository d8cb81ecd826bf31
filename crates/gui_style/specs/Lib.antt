pub mod Filed
pub mod Kept
pub mod Styles
pub mod Users
