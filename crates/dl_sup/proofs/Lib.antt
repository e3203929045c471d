pub mod Links
pub mod LinkLemmas
pub mod Slots
pub mod VisitLemmas
pub mod Fronts
pub mod Walks
pub mod Cycles
