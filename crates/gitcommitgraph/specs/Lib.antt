pub mod Files
pub mod Texts
pub mod Chains
pub mod Faults
pub mod Laws
pub mod steps
