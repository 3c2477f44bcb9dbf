pub mod Talks
pub mod Partial
pub mod Faults
pub mod Connections
pub mod steps
