pub mod Paintable
pub mod Painting
pub mod Walking
