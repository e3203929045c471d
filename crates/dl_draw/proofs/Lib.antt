pub mod Wrapping
pub mod Spelling
pub mod Fronts
pub mod Accepting
pub mod EachCall
pub mod NoPairs
