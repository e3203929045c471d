pub mod SlotLemmas
pub mod LastLemmas
pub mod EntryLemmas
pub mod NameLemmas
pub mod LabelLemmas
pub mod FactLemmas
pub mod PairLemmas
pub mod DropLemmas
