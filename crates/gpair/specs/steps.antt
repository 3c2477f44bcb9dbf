-- Definitions for private functions and proofs.
pub mod Messages
