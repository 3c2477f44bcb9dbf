-- Definitions that only private functions and proofs use.
pub mod Building
pub mod Flags
pub mod RequestWriting
pub mod RequestState
pub mod Views
