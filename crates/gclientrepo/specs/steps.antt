-- Definitions that only private functions and proofs use.
pub mod Repos
pub mod Settling
