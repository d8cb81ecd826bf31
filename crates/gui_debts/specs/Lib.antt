pub mod Bars
pub mod Kept
pub mod Owed
pub mod Seen
pub mod Sightings
pub mod Sights
