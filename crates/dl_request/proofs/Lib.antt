pub mod Asking
pub mod CutWords
pub mod Deciding
pub mod FirstWords
