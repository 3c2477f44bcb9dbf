-- Definitions for readers of single packets, private functions and proofs.
pub mod AdvertReading
pub mod HelloReading
