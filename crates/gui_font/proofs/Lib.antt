pub mod Growing
pub mod Indexing
pub mod Inking
pub mod LineLists
pub mod Measuring
pub mod Scanning
pub mod Slots
pub mod Storing
