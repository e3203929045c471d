pub mod Served
pub mod Halls
pub mod Ending
