pub mod Messages
pub mod Joined
pub mod Pairs
pub mod steps
