pub mod Storing
pub mod Faults
pub mod Memory
