pub mod Marks
pub mod Bytes
pub mod KeptMarks
