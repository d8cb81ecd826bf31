pub mod Examples
pub mod Laws
pub mod StreamPanel
pub mod Viewer
