-- The steps: what only private functions and proofs speak of.
pub mod Lines
pub mod Outputs
pub mod Printing
pub mod Stored
