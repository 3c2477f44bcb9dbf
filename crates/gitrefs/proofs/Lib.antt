pub mod Cutting
pub mod LooseLemmas
pub mod PackedLemmas
pub mod TextLemmas
pub mod BranchLemmas
