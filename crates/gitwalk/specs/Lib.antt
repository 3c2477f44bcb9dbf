pub mod Entries
pub mod Received
pub mod Gathering
pub mod StoredTrees
pub mod Laws
pub mod steps
