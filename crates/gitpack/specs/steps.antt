-- Definitions for private functions and proofs.
pub mod Arriving
pub mod FirstBytes
pub mod Rows
