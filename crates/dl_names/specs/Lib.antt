pub mod Paired
pub mod Pairs
pub mod Stems
pub mod Atoms
pub mod KeptAtoms
pub mod KeptNames
pub mod KeptPairs
