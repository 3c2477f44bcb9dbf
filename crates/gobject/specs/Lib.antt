pub mod Faults
pub mod Objects
pub mod Packs
pub mod PlainPackText
pub mod PlainPackReading
pub mod Laws
pub mod steps
