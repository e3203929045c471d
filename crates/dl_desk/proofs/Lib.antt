pub mod Suiting
pub mod Calling
