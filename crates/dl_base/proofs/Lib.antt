pub mod Members
pub mod Distinct
pub mod PathLemmas
pub mod Climb
pub mod Filters
