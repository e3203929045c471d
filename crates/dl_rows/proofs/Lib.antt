pub mod NumberLists
pub mod TableLemmas
pub mod FormLemmas
pub mod Keeping
pub mod RowLemmas
pub mod PackedLemmas
pub mod RegionLemmas
pub mod There
