pub mod Adding
pub mod Damage
pub mod Gridded
pub mod Joining
pub mod Laws
pub mod Pending
pub mod Rounded
pub mod Slices
