-- Definitions for readers of single packets, private functions and proofs.
pub mod LineViews
pub mod ReplyState
pub mod WellFormed
