-- The definitions that only private functions and proofs use.
pub mod Deadlines
pub mod Sockets
pub mod Remote
pub mod Turns
