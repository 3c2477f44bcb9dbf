-- Definitions that only private functions and proofs use.
pub mod NoSuchPart
pub mod Reading
pub mod TextLaws
