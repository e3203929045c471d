pub mod Checks
pub mod Replies
pub mod Certified
