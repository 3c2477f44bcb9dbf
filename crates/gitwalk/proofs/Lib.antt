pub mod WalkLemmas
pub mod LookupLemmas
pub mod SentLemmas
pub mod HeldLemmas
