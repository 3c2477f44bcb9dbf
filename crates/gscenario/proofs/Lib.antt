pub mod WordLemmas
pub mod ArgumentLemmas
pub mod LineLemmas
pub mod SameEvents
