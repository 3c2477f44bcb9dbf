pub mod ComponentLemmas
pub mod DigitLemmas
pub mod IdLemmas
pub mod ListLemmas
pub mod NameLemmas
pub mod PlaceLemmas
