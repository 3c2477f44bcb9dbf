-- The text of a server's error packet is short, so the packet can be written.
use Rattle.std.proofs.Common.{◌∷◌, ◌++◌, ◌≡◌, ◌∙◌, ◌≤◌, ℕ, List, length, codes, All, Some}
use Rattle.std.proofs.Common.{sym, subst, arith, length-append}
use Rattle.std.proofs.lemmas.List.Elements.{All-contains, Contains-append_right}
use Rattle.gname.specs.Ids.{IsIdOf, id_text}
use Rattle.gname.specs.Laws.{IdsHaveOneFormat, IdsHaveTexts}
use Rattle.gname.specs.declared.formats.Format.{Format}
use Rattle.gpkt.specs.Packets.{canonical_all}
use Rattle.gpkt.specs.Sending.{Input}
use Rattle.ggrammar.proofs.IdLemmas.{id_text_short}
use Rattle.ggrammar.specs.Limits.{profile}
use Rattle.gobject.specs.Packs.{PackFails}
use Rattle.gobject.specs.declared.node.Entry.{Entry}
use Rattle.gdag.proofs.IdLists.{contains_head}
use Rattle.gdag.specs.Graphs.{IsFirstAbsent}
use Rattle.grequest.specs.Asked.{Asked, Fetches}
use Rattle.grequest.specs.RequestWriting.{canonical_request}
use Rattle.grequest.specs.WellFormed.{IsAsked}
use Rattle.ganswer.specs.Faults.{serve_fault_row}
use Rattle.ganswer.specs.Servers.{Server}
use Rattle.ganswer.specs.declared.fault.ServeFault.{ServeFault}
use Rattle.ganswer.specs.declared.fault.ServeFault.TheVariants as serve
use Rattle.gserver.proofs.SendingLemmas.{phrase_is_short}
use Rattle.gserver.specs.Conversations.{CannotBegin}
use Rattle.gserver.specs.Exchanges.{Declines, IsRefused}
use Rattle.gserver.specs.Refusals.{detail_of, err_text}
use Rattle.gjoined.proofs.Bytes.{read_from}
use Rattle.gjoined.proofs.Requests.{RequestLaws, one_request}

-- the laws of the text of an id
pub record IdLaws : Type 0 where
  pub formats : IdsHaveOneFormat
  pub spelt : IdsHaveTexts

-- ---- the texts of refusals

text_is_short : (fault : ServeFault) → length (detail_of fault) ≤ 65 → length (err_text fault) ≤ 128
unfolding err_text
text_is_short fault few =
    let phrase = (serve_fault_row fault).phrase in
    omega (
      arith,
      phrase_is_short fault,
      length-append (codes "upload-pack: ") (phrase ++ detail_of fault),
      length-append phrase (detail_of fault),
    )

absent_formed : {A : Type 0} (g : List (Entry A)) (format : Format) (ids : List (List ℕ)) (id : List ℕ)
    → All (IsIdOf format) ids → IsFirstAbsent g ids id → IsIdOf format id
absent_formed g format ids id all absent =
    All-contains (IsIdOf format) (absent.front ++ id ∷ absent.rest) id (subst (All (IsIdOf format)) absent.parts all)
    (Contains-append_right absent.front (id ∷ absent.rest) id (contains_head id absent.rest))

module _ {A : Type 0} (laws : IdLaws) (requests : RequestLaws) (server : Server A) (fails : PackFails A) where
  -- the id that the server does not hold is a want of the well-formed request
  ours_formed : (asked : Asked) (id : List ℕ) → IsAsked profile server.graph.format asked
      → Declines server fails asked (serve.NotOurs id) → IsIdOf server.graph.format id
  ours_formed (Fetches asked) id is declines =
      absent_formed server.graph.entries server.graph.format asked.wants id is.wants declines
  ours_formed asked id is declines = absurd declines

  -- the text of a refusal is short, if the server reads a well-formed request or no request at all
  pub refused_short : (input : Input) (left more : List ℕ) (asked : Asked) (fault : ServeFault)
      → IsRefused server fails input fault → input.read.old ≡ Some left → IsAsked profile server.graph.format asked
      → left ≡ canonical_all (canonical_request server.graph.format asked) ++ more → length (err_text fault) ≤ 128
  refused_short input left more asked (serve.NotOurs id) is from well same =
      let format = server.graph.format in
      let read = read_from input.read.old input.read.new left is.packets from is.lines in
      let one = one_request requests format asked is.asked is.packets read.front more read.left well is.says read.spelt
      (sym read.parts ∙ same) in
      let formed = ours_formed asked id well
      (subst (λ (a : Asked). Declines server fails a (serve.NotOurs id)) one.0 is.declines) in
      let digits = id_text_short laws.formats laws.spelt format id formed in
      text_is_short (serve.NotOurs id) (omega (arith, digits, length-append (codes " ") (id_text id)))
  refused_short input left more asked fault is from well same = text_is_short fault (omega arith)

-- the text of a refusal is short, if memory runs out at the start
pub begun_short : (input : Input) (fault : ServeFault) → CannotBegin input fault → length (err_text fault) ≤ 128
begun_short input (serve.NotOurs id) is = absurd is
begun_short input fault is = text_is_short fault (omega arith)
