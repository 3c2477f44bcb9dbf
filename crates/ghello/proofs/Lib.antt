pub mod HelloLemmas
pub mod AdvertLemmas
pub mod Manual
pub mod Canonical
pub mod PacketReasons
