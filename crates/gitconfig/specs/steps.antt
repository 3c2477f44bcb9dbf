-- Definitions that only private functions and proofs use.
pub mod Readings
pub mod Writing
