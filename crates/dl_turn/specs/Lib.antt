pub mod History
pub mod Rules
pub mod Seats
pub mod Steps
pub mod Views
