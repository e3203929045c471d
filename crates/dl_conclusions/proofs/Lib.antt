pub mod Literals
pub mod Prefixes
pub mod Pairing
pub mod Placing
pub mod Concluding
pub mod Lines
