-- The steps in which a server sends a reply.
use Rattle.std.specs.Prelude.{◌≡◌, ℕ, ◌+◌, ◌<◌, ◌≤◌, Bool, true, false, List, [], ◌++◌, length, map, Option, None}
use Rattle.gname.specs.Ids.{Id}
use Rattle.gfetchreply.specs.FetchReplies.{ack_packet}
use Rattle.gparts.specs.Parts.{Gives}
use Rattle.ggrammar.specs.declared.ends.Ends.{Ends}
use Rattle.gserver.specs.PackSaying.{May}
use Rattle.gserver.specs.Saying.{SaysRest, acks_or_nak, steps_of}
use Rattle.gserver.specs.declared.said.Rest.TheVariants as rest
use Rattle.gpkt.specs.Packets.{Bytes, Packet, canonical_all, max_packet}
use Rattle.gtalk.specs.Talks.{queue_room}
use Rattle.gdialogue.specs.declared.side.Said.{Said}
use Rattle.gdialogue.specs.declared.side.Said.TheVariants as said
use Rattle.gserver.specs.declared.said.Rest.{Rest}
use Rattle.gserver.specs.declared.said.Stepped.{Stepped}
use Rattle.gserver.specs.declared.said.Stepped.TheVariants as stepped

-- the step appends packets of the reply to the queued bytes, and fewer steps remain
pub record PutsSome (old new : May) (steps_old steps_new : ℕ) (before out : Bytes) : Type 0 where
  pub said : List Packet
  pub spelt : out ≡ before ++ canonical_all said
  pub goes_on : (rest : List Packet) (goes : Bool) → new rest goes → old (said ++ rest) goes
  pub nearer : steps_new < steps_old

-- the step appends the last packets of the reply to the queued bytes
pub record PutsLast (old : May) (goes : Bool) (before out : Bytes) : Type 0 where
  pub said : List Packet
  pub spelt : out ≡ before ++ canonical_all said
  pub all : old said goes

-- one step of a reply from this state
module _ {A R P : Type 0} (gives : R → P → Gives) (most : R → P → ℕ) (ends : Ends) (goes_on : Bool) where
  abbrev pub StepsFrom : Rest A R P → Bytes → Bytes → Stepped A R P → Type 0
  StepsFrom from before out (stepped.More rest) =
      PutsSome (SaysRest gives ends goes_on from) (SaysRest gives ends goes_on rest)
      (steps_of most from) (steps_of most rest) before out
  StepsFrom from before out stepped.Whole = PutsLast (SaysRest gives ends goes_on from) true before out
  StepsFrom from before out stepped.Last = PutsLast (SaysRest gives ends goes_on from) false before out

-- the result of the step that queues the last packet of a reply, given whether the dialogue then continues
abbrev pub end_of : {A R P : Type 0} → Bool → Stepped A R P
end_of true = stepped.Whole
end_of false = stepped.Last

-- the maximum number of bytes of the text for a packer's fault
abbrev pub max_words : ℕ
max_words = 64

-- the state of the reply after the heading of the acknowledgments
abbrev pub FollowsHeading : {A R P : Type 0} → List Id → Option (R × P) → Rest A R P → Type 0
FollowsHeading ids pack rest.Nak = (ids ≡ []) × (pack ≡ None)
FollowsHeading ids pack (rest.Ack acks at other) =
    (acks.ids ≡ ids) × (at ≡ 0) × (other ≡ pack) × (acks_or_nak ids pack ≡ map ack_packet ids)
FollowsHeading ids pack _ = ⊥

-- ---- several steps

-- at least `count` steps lead from the first state to this state; the queue still has room for another packet
pub record HasSaid (first now : May) (steps_first steps_now count : ℕ) (out : Bytes) : Type 0 where
  pub said : List Packet
  pub spelt : out ≡ canonical_all said
  pub goes_on : (rest : List Packet) (goes : Bool) → now rest goes → first (said ++ rest) goes
  pub nearer : count + steps_now ≤ steps_first
  pub room : length out + max_packet ≤ queue_room

-- the effect of one step of a reply, for each result
abbrev pub Advances : May → May → ℕ → ℕ → Bytes → Bytes → Said → Type 0
Advances old new steps_old steps_new before out said.More = PutsSome old new steps_old steps_new before out
Advances old new steps_old steps_new before out said.Whole = PutsLast old true before out
Advances old new steps_old steps_new before out said.Last = PutsLast old false before out
