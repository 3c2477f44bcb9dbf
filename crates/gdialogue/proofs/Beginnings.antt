-- A dialogue of a side whose first state is known.
use Rattle.std.proofs.Common.{Bool, List, Option}
use Rattle.gpkt.specs.Packets.{Packet}
use Rattle.ggrammar.specs.Grammar.{Judge}
use Rattle.ggrammar.specs.declared.fault.MessageFault.{MessageFault}
use Rattle.gtalk.specs.declared.conversation.Stop.{Stop}
use Rattle.gdialogue.specs.Dialogues.{Answered, HasReplied}
use Rattle.gdialogue.specs.Dialogues as dialogue

module _ {B S : Type 0} (side_of : B → S) (is_first : S → Type 0) (judge : S → Judge) (brings : S → List Packet → Packet → Bool)
    (opens : S → List Packet → Bool → Type 0) (answers : S → List Packet → List Packet → Bool → S → Type 0)
    (refuses : S → MessageFault → List Packet → S → Type 0) where
  abbrev pub BegunAnswered : B → List Packet → List Packet → B → Type 0
  BegunAnswered = Answered (λ b. judge (side_of b)) (λ b. brings (side_of b)) (λ b said goes. is_first (side_of b) × opens (side_of b) said goes)
      (λ old lines said goes new. answers (side_of old) lines said goes (side_of new)) (λ old fault said new. refuses (side_of old) fault said (side_of new))

  abbrev pub BegunReplied : B → List Packet → Option Stop → List Packet → List Packet → Bool → B → Type 0
  BegunReplied = HasReplied (λ b. judge (side_of b)) (λ b. brings (side_of b)) (λ b said goes. is_first (side_of b) × opens (side_of b) said goes)
      (λ old lines said goes new. answers (side_of old) lines said goes (side_of new)) (λ old fault said new. refuses (side_of old) fault said (side_of new))

  -- the answers so far are those of the contained side, which began with the known state
  pub begun_answered : (first : B) (heard said : List Packet) (now : B) → BegunAnswered first heard said now
      → is_first (side_of first) × Answered judge brings opens answers refuses (side_of first) heard said (side_of now)
  begun_answered first heard said now (dialogue.Answered.opened packets h) = (h.0, dialogue.Answered.opened packets h.1)
  begun_answered first heard said now (dialogue.Answered.more so_far so_said lines reply mid last before whole says) =
      let b = begun_answered first so_far so_said mid before in
      (b.0, dialogue.Answered.more so_far so_said lines reply (side_of mid) (side_of last) b.1 whole says)

  -- the latest answer is an answer of the contained side, which began with the known state
  pub begun_replied : (first : B) (heard : List Packet) (stop : Option Stop) (before reply : List Packet) (goes : Bool) (now : B) → BegunReplied first heard stop before reply goes now
      → is_first (side_of first) × HasReplied judge brings opens answers refuses (side_of first) heard stop before reply goes (side_of now)
  begun_replied first heard stop before reply goes now (dialogue.HasReplied.opened said on h) = (h.0, dialogue.HasReplied.opened said on h.1)
  begun_replied first heard stop before reply goes now (dialogue.HasReplied.answered so_far so_said lines said on mid last a w h) =
      let b = begun_answered first so_far so_said mid a in
      (b.0, dialogue.HasReplied.answered so_far so_said lines said on (side_of mid) (side_of last) b.1 w h)
  begun_replied first heard stop before reply goes now (dialogue.HasReplied.refused so_far so_said lines said why fault mid last a r h) =
      let b = begun_answered first so_far so_said mid a in
      (b.0, dialogue.HasReplied.refused so_far so_said lines said why fault (side_of mid) (side_of last) b.1 r h)
