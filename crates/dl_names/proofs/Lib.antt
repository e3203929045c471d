pub mod NameLemmas
pub mod PairLemmas
pub mod PartLemmas
pub mod AtomLemmas
pub mod NotedLemmas
pub mod StemLemmas
