pub mod Groups
pub mod Handlers
pub mod Kept
