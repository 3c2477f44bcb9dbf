-- The definitions that only private functions and proofs use.
pub mod Reading
