pub mod TextsFit
pub mod Spreads
pub mod BarAreas
