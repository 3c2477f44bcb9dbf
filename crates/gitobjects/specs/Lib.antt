pub mod Paths
pub mod Windows
pub mod Parts
pub mod Alternates
pub mod Listings
pub mod Listed
pub mod Heads
pub mod Inflated
