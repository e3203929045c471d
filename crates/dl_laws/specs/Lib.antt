pub mod Conclusions
pub mod Edits
