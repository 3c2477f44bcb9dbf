-- Definitions for private functions and proofs.
pub mod Devices
pub mod Heads
pub mod PacketReading
pub mod PacketWriting
