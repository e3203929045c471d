pub mod Raising
pub mod Gathering
pub mod Reached
pub mod Outside
