pub mod PartLemmas
pub mod PageLemmas
pub mod PagedLemmas
pub mod NestedLemmas
pub mod TableLemmas
