pub mod Adding
pub mod Ending
pub mod Hearing
pub mod Hosting
pub mod Starting
