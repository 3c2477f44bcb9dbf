-- Definitions for readers of single packets, private functions and proofs.
pub mod FetchHeads
pub mod ReplyState
pub mod Values
pub mod Views
