pub mod Editions
pub mod Lines
pub mod KeptEdition
pub mod Offices
