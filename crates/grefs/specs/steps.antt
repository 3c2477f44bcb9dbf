-- Definitions that only private functions and proofs use.
pub mod RefPlaces
pub mod Parsing
