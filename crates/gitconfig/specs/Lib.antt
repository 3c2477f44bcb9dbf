pub mod Bytes
pub mod Values
pub mod Configs
pub mod steps
