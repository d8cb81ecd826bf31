pub mod Joining
pub mod Naming
