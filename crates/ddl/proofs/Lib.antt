pub mod Replies
pub mod Certifying
pub mod Exact
mod Answering
