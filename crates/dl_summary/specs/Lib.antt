pub mod Survey
pub mod Answers
pub mod Summary
pub mod Replaying
