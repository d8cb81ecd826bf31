pub mod Book
pub mod Cascade
pub mod Examples
pub mod Firsts
pub mod InOrder
pub mod Kinds
pub mod Laws
pub mod Value
