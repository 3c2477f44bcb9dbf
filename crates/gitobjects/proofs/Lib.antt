pub mod PartsLemmas
pub mod WindowLemmas
pub mod ListingLemmas
pub mod HeadLemmas
