pub mod Words
mod Statements
mod Edits
pub mod Entries
pub mod Runs
