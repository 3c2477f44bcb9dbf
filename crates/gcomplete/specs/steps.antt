pub mod Keeping
pub mod Checking
