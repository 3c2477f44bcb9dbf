pub mod Numbers
pub mod Entries
pub mod Deltas
pub mod Indexes
pub mod Packs
pub mod Laws
pub mod steps
