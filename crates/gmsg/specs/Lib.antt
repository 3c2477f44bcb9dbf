pub mod Laws
pub use Rattle.gpkt.specs.Packets
pub use Rattle.gpkt.specs.Change
pub use Rattle.gpkt.specs.PacketReading
pub use Rattle.gpkt.specs.PacketWriting
pub use Rattle.gpkt.specs.Laws as PacketLaws
pub use Rattle.gname.specs.Formats
pub use Rattle.gname.specs.Ids as ObjectIds
pub use Rattle.gname.specs.Names
pub use Rattle.gname.specs.Limits
pub use Rattle.ggrammar.specs.Grammar
pub use Rattle.ggrammar.specs.Kinds
pub use Rattle.ggrammar.specs.Limits as MessageLimits
pub use Rattle.ggrammar.specs.MessageReading
pub use Rattle.ggrammar.specs.MessageBytes
pub use Rattle.ggrammar.specs.Building
pub use Rattle.ggrammar.specs.Writing
pub use Rattle.ggrammar.specs.Faults
pub use Rattle.ggrammar.specs.Capabilities
pub use Rattle.ggrammar.specs.CapabilityView
pub use Rattle.ggrammar.specs.Endings
pub use Rattle.ghello.specs.Hello
pub use Rattle.ghello.specs.Adverts
pub use Rattle.ghello.specs.Offers
pub use Rattle.ghello.specs.Laws as HelloLaws
pub use Rattle.grequest.specs.Asked
pub use Rattle.grequest.specs.Requests
pub use Rattle.grequest.specs.RequestReading
pub use Rattle.grequest.specs.RequestWriting
pub use Rattle.grequest.specs.RequestValues
pub use Rattle.grequest.specs.Building as RequestBuilding
pub use Rattle.grequest.specs.Manual as RequestManual
pub use Rattle.grequest.specs.WellFormed as RequestForms
pub use Rattle.glsreply.specs.RefTexts
pub use Rattle.glsreply.specs.LsReplies
pub use Rattle.glsreply.specs.LsManual
pub use Rattle.glsreply.specs.LentViews
pub use Rattle.glsreply.specs.TextLengths
pub use Rattle.glsreply.specs.WellFormed as LsReplyForms
pub use Rattle.gfetchreply.specs.FetchReplies
pub use Rattle.gfetchreply.specs.FetchHeads
pub use Rattle.gfetchreply.specs.FetchManual
pub use Rattle.gfetchreply.specs.PackSinks
pub use Rattle.gfetchreply.specs.ReplyReading as FetchReplyReading
pub use Rattle.gfetchreply.specs.Values as FetchReplyValues
pub use Rattle.gfetchreply.specs.Views as FetchReplyViews
pub use Rattle.gfetchreply.specs.WellFormed as FetchReplyForms
pub use Rattle.gfetchreply.specs.Laws as FetchReplyLaws
