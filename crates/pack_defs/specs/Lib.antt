pub mod Laws
pub mod Packing
pub mod Paints
