pub mod Lines
pub mod KeptBody
pub mod KeptLines
pub mod Indexes
pub mod KeptIndex
