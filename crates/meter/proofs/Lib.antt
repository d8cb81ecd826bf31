pub mod Ready
pub mod Steps
