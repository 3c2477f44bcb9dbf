pub mod Types
pub mod Naming
pub mod Lines
pub mod Trees
pub mod Links
pub mod Entries
pub mod Faults
pub mod Laws
