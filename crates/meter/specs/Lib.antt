pub mod Commands
pub mod Faults
pub mod Lines
pub mod Numbers
pub mod Ready
pub mod Shown
