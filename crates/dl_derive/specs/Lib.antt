pub mod Back
pub mod Gap
pub mod Unnumbered
pub mod Ways
pub mod Wanted
pub mod Part
pub mod Asked
