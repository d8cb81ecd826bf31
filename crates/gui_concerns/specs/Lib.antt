pub mod Concerned
pub mod Edits
pub mod Handles
pub mod Marking
pub mod Moving
