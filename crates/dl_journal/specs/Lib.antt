pub mod Journal
pub mod Streams
