pub mod Heads
pub mod Listing
pub mod Sharing
pub mod Versions
