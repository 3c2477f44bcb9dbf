pub mod Grammar
pub mod MessageReading
pub mod MessageBytes
pub mod Kinds
pub mod Building
pub mod Faults
pub mod FaultViews
pub mod PeerErrors
pub mod Capabilities
pub mod Ids
pub mod Endings
pub mod Limits
pub mod Writing
pub mod Texts
pub mod Places
pub mod CapabilityView
pub use Rattle.gpkt.specs.Packets
pub use Rattle.gpkt.specs.Change
pub use Rattle.gpkt.specs.PacketReading
pub use Rattle.gpkt.specs.PacketWriting
pub use Rattle.gpkt.specs.Laws as PacketLaws
pub use Rattle.gname.specs.Ids as ObjectIds
pub use Rattle.gname.specs.Formats
