pub mod Reasoner
pub mod Histories
pub mod Text
pub mod Spelled
pub mod Laws
