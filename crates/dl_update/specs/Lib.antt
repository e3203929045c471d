pub mod Whole
pub mod Room
pub mod RightIn
pub mod Drafts
pub mod Bound
pub mod KeptDraft
