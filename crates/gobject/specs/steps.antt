-- Definitions that only private functions and proofs use.
pub mod PlainPackReading
pub mod PlainPackWriting
