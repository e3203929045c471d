pub mod MarkLemmas
mod ByteLemmas
mod RowLemmas
