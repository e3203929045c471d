pub mod Countered
pub mod Propagation
