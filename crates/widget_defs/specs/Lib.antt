pub mod Examples
pub mod Items
pub mod Kinds
pub mod Laws
pub mod Looks
pub mod Reference
pub mod Sizes
