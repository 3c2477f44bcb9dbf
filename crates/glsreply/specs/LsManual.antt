-- The ls-refs replies that a server may send, in the words of gitprotocol-v2(5), "ls-refs":
--
--   output = *ref flush-pkt
--   obj-id-or-unborn = (obj-id | "unborn")
--   ref = PKT-LINE(obj-id-or-unborn SP refname *(SP ref-attribute) LF)
--   ref-attribute = (symref | peeled)
--   symref = "symref-target:" symref-target
--   peeled = "peeled:" obj-id
--
-- This crate allows `unborn` only in the first line, for HEAD, with a symref target and no other attribute. Each
-- attribute occurs at most once.
use Rattle.std.specs.Prelude.{◌≡◌, ℕ, ◌≤◌, List, [], ◌∷◌, ◌++◌, length, map, codes, Option, Some, None, ◌⊎◌}
use Rattle.gpkt.specs.Packets.{Bytes, Packet, Data, Flush, text}
use Rattle.gname.specs.Ids.{Id, IsIdTextOf}
use Rattle.gname.specs.Names.{Name, IsRefName}
use Rattle.gname.specs.declared.formats.Format.{Format}
use Rattle.ggrammar.specs.Endings.{ends_with}
use Rattle.ggrammar.specs.declared.ends.Ends.{Ends}
use Rattle.glsreply.specs.RefTexts.{RefLine, unborn_text}
use Rattle.glsreply.specs.LsReplies.{LsReply, max_lines}

-- the text of the attribute `symref-target:`, with the target of a symbolic ref
abbrev pub IsSymref : Bytes → Name → Type 0
IsSymref text target = (text ≡ codes " symref-target:" ++ target) × IsRefName target

abbrev pub IsPeeled : Format → Bytes → Id → Type 0
IsPeeled format text id = (digits : Bytes) × (text ≡ codes " peeled:" ++ digits) × IsIdTextOf format digits id

-- the text of an optional attribute: empty if the attribute is absent
abbrev pub IsAttribute : (Bytes → List ℕ → Type 0) → Bytes → Option (List ℕ) → Type 0
IsAttribute IsTextOf text None = text ≡ []
IsAttribute IsTextOf text (Some value) = IsTextOf text value

-- the text of the attributes `symref-target` and `peeled`, each at most once, in either order
pub record AreAttributes (format : Format) (text : Bytes) (symref : Option Name) (peeled : Option Id) : Type 0 where
  pub target : Bytes
  pub leads : Bytes
  pub parts : (text ≡ target ++ leads) ⊎ (text ≡ leads ++ target)
  pub is_target : IsAttribute IsSymref target symref
  pub is_leads : IsAttribute (IsPeeled format) leads peeled

-- the text of a ref's line: the hex digits of the id, a space, the name, and the attributes
pub record IsRefText (format : Format) (text : Bytes) (ref : RefLine) : Type 0 where
  pub digits : Bytes
  pub attributes : Bytes
  pub parts : text ≡ digits ++ codes " " ++ ref.name ++ attributes
  pub is_id : IsIdTextOf format digits ref.id
  pub is_name : IsRefName ref.name
  pub are_attributes : AreAttributes format attributes ref.symref ref.peeled

-- the texts are the lines of the refs, one text for each ref, in order
abbrev pub AreRefTexts : Format → List Bytes → List RefLine → Type 0
AreRefTexts format [] [] = Unit {0}
AreRefTexts format (text ∷ texts) (ref ∷ refs) = IsRefText format text ref × AreRefTexts format texts refs
AreRefTexts format _ _ = ⊥

-- the payload of an unborn HEAD, or no payload if there is no unborn HEAD
abbrev pub IsUnbornFirst : Option Name → List Bytes → Type 0
IsUnbornFirst None payloads = payloads ≡ []
IsUnbornFirst (Some target) payloads =
    (payload : Bytes) × (payloads ≡ payload ∷ []) × (text payload ≡ unborn_text target) × IsRefName target

-- the packets are an ls-refs reply with this value
pub record IsLsReply (format : Format) (ends : Ends) (packets : List Packet) (reply : LsReply) : Type 0 where
  pub first : List Bytes
  pub refs : List Bytes
  pub parts : packets ≡ map Data (first ++ refs) ++ Flush ∷ ends_with ends
  pub is_first : IsUnbornFirst reply.unborn first
  pub are_refs : AreRefTexts format (map text refs) reply.lines
  pub few : length (first ++ refs) ≤ max_lines
