pub mod Below
pub mod Changes
pub mod Covering
pub mod Lists
pub mod Marked
pub mod Marks
pub mod Parents
pub mod Subjects
