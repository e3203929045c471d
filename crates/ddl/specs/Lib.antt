pub mod Run
pub mod Answering
