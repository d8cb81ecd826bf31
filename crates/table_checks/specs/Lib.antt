pub mod Font
pub mod Kinds
pub mod Numbers
pub mod Pools
pub mod Properties
pub mod Words
