pub mod Asked
pub mod Examples
pub mod Running
pub mod Scenes
pub mod Texts
pub mod Words
pub mod Writing
