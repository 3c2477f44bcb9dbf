-- Definitions for private functions, for proofs, and for calls that apply a reply read packet by packet.
pub mod Fields
pub mod Calls
