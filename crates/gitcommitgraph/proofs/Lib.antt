pub mod OrderLemmas
pub mod ParentLemmas
pub mod RowLemmas
pub mod TextLemmas
pub mod ChainLemmas
pub mod LineLemmas
pub mod FrameLemmas
pub mod ExactLemmas
