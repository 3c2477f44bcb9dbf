-- Definitions that only private functions and proofs use.
pub mod Common
pub mod Offers
pub mod Passes
pub mod Tags
