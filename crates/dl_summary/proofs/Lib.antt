pub mod Gathered
pub mod Nested
pub mod Surveyed
pub mod Replayed
