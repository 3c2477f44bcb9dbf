-- The definitions that only private functions and proofs use.
pub mod Bringing
