pub mod CommandLine
pub mod Cutting
pub mod MadeLines
pub mod Numbers
pub mod Questions
