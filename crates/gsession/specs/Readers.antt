-- The reader of a fetch reply, and the state of the indexer that reads the pack.
use Rattle.std.specs.Prelude.{◌≡◌, List}
use Rattle.gpkt.specs.Packets.{Bytes, Packet}
use Rattle.gfetchreply.specs.FetchReplies.{Reading}
use Rattle.gfetchreply.specs.Views.{reading_in}
use Rattle.gfetchreply.specs.steps.ReplyState.{HoldsReply, kept_in}
use Rattle.gobject.specs.Packs.{IndexFails}
use Rattle.gsession.specs.steps.Calls.{MayHaveFed}
use Rattle.gsession.specs.declared.reader.ObjectsReader.{ObjectsReader}

-- the reader has accepted these packets of a reply with these parameters, and has passed their data of the pack to the
-- indexer
abbrev pub HoldsObjects : {A F : Type 0} → (F → Bytes → Type 0) → IndexFails → Reading → ObjectsReader F A
    → List Packet → Type 0
HoldsObjects fed index_fails reading reader packets =
    (reading_in reader.reply.reading ≡ reading)
    × HoldsReply (MayHaveFed fed index_fails) (λ one other. Unit {0}) (reading_in reader.reply.reading)
    (kept_in reader.reply.sections) reader.feed packets
