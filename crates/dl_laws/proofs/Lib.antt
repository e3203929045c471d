pub mod Searching
pub mod Listing
pub mod Candidates
pub mod ExactGaps
pub mod Saturating
pub mod Reaching
pub mod Causes
