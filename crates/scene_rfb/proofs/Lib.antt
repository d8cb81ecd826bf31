pub mod Shown
pub mod Tops
