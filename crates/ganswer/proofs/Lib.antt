pub mod AdvertLemmas
pub mod AnswerLemmas
pub mod BoundedPacks
pub mod FitLemmas
pub mod LawLemmas
pub mod LsLemmas
pub mod PeelLemmas
pub mod ServerLemmas
