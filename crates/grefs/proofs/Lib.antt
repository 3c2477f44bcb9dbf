pub mod RefLemmas
pub mod SpecLemmas
