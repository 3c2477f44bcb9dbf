pub mod Faults
pub mod Heads
pub mod Laws
pub mod RefLists
pub mod RefspecFaults
pub mod Refspecs
pub mod steps
pub use Rattle.gname.specs.Names
