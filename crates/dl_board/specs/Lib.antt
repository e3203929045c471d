pub mod Boards
pub mod Turns
pub mod Kept
