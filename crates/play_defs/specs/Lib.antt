pub mod Animation
pub mod Examples
pub mod Focus
pub mod Handlers
pub mod Input
pub mod Laws
pub mod Same
