pub mod Walked
pub mod Outside
