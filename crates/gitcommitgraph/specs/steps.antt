-- The definitions that only private functions and proofs use.
pub mod Rows
pub mod Tables
pub mod Layers
pub mod Chains
