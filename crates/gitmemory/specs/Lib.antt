pub mod Entries
pub mod Packs
pub mod steps
