-- Definitions for private functions and proofs.
pub mod Accepting
pub mod Ending
pub mod Listing
