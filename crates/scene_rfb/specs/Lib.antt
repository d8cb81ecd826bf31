pub mod Runs
pub mod Screens
