pub mod Buffer
pub mod Ends
pub mod Lending
pub mod Masks
