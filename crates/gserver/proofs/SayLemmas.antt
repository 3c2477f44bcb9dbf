-- Several steps of a reply.
use Rattle.std.proofs.Common.{◌≡◌, ◌≤◌, ◌+◌, ℕ, Bool, List, [], ◌∷◌, ◌++◌, length, refl, sym, ap, ◌∙◌, subst, arith, append_assoc}
use Rattle.gpkt.specs.Packets.{Bytes, Packet, canonical, canonical_all, max_packet}
use Rattle.gtalk.specs.Talks.{queue_room}
use Rattle.gserver.specs.PackSaying.{May}
use Rattle.gserver.specs.steps.Stepping.{HasSaid, PutsLast, PutsSome}

canonical_joins : (lines more : List Packet) → canonical_all (lines ++ more) ≡ canonical_all lines ++ canonical_all more
canonical_joins [] more = refl
canonical_joins (line ∷ lines) more =
    ap (λ l. canonical line ++ l) (canonical_joins lines more) ∙ sym (append_assoc (canonical line) (canonical_all lines) (canonical_all more))

pub nothing_said : (may : May) (steps : ℕ) (out : Bytes) → out ≡ [] → HasSaid may may steps steps 0 out
nothing_said may steps out empty = record {
  said = [];
  spelt = empty;
  goes_on = λ rest goes h. h;
  nearer = omega arith;
  room = subst (λ o. length o + max_packet ≤ queue_room) (sym empty) (omega arith);
}

module _ (first now : May) (steps_first steps_now count : ℕ) (before out : Bytes)
    (has : HasSaid first now steps_first steps_now count before) where
  joined : (more : List Packet) → out ≡ before ++ canonical_all more → out ≡ canonical_all (has.said ++ more)
  joined more is = is ∙ ap (λ l. l ++ canonical_all more) has.spelt ∙ sym (canonical_joins has.said more)

  -- all packets that are queued after one more step
  pub record SaidMore (new : May) (steps_new : ℕ) : Type 0 where
    pub said : List Packet
    pub spelt : out ≡ canonical_all said
    pub goes_on : (rest : List Packet) (goes : Bool) → new rest goes → first (said ++ rest) goes
    pub nearer : count + 1 + steps_new ≤ steps_first

  pub said_more : (new : May) (steps_new : ℕ) → PutsSome now new steps_now steps_new before out → SaidMore new steps_new
  said_more new steps_new puts = record {
    said = has.said ++ puts.said;
    spelt = joined puts.said puts.spelt;
    goes_on = λ rest goes h. subst (λ l. first l goes) (sym (append_assoc has.said puts.said rest)) (has.goes_on (puts.said ++ rest) goes (puts.goes_on rest goes h));
    nearer = omega (arith, has.nearer, puts.nearer);
  }

  pub has_more : (new : May) (steps_new : ℕ) → PutsSome now new steps_now steps_new before out
      → length out + max_packet ≤ queue_room → HasSaid first new steps_first steps_new (count + 1) out
  has_more new steps_new puts room =
      let m = said_more new steps_new puts in
      record { said = m.said; spelt = m.spelt; goes_on = m.goes_on; nearer = m.nearer; room = room }

  pub record SaidAll (goes : Bool) : Type 0 where
    pub said : List Packet
    pub spelt : out ≡ canonical_all said
    pub all : first said goes

  pub said_all : (goes : Bool) → PutsLast now goes before out → SaidAll goes
  said_all goes puts = record {
    said = has.said ++ puts.said;
    spelt = joined puts.said puts.spelt;
    all = has.goes_on puts.said goes puts.all;
  }
