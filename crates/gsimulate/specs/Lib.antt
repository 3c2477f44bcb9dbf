pub mod Lines
pub mod Faults
pub mod Simulating
pub mod steps
