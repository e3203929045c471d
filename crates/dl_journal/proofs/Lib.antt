pub mod Written
pub mod Opened
pub mod Settled
pub mod Undone
mod Printed
