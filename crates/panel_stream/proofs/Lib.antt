pub mod Answering
pub mod Colors
pub mod Pictures
pub mod Records
pub mod Telling
pub mod Viewing
