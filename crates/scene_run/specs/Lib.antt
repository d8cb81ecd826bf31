pub mod Counting
pub mod Effects
pub mod Headline
pub mod Laws
pub mod Making
pub mod Running
pub mod Top
