-- One step of a reply.
use Rattle.std.proofs.Common.{◌≡◌, ◌<◌, ◌≤◌, ◌+◌, ℕ, Bool, true, false, List, [], ◌∷◌, ◌++◌, length, drop, map, Option, Some, None, codes, refl, sym, ap, ap₂, ◌∙◌, subst, arith, append-nil, length-drop, add-one, drop-cons, get_or}
use Rattle.std.proofs.lemmas.List.{nil_from_length}
use Rattle.gname.specs.Ids.{Id}
use Rattle.gobject.specs.declared.fault.PackFault.{PackFault}
use Rattle.gparts.specs.Parts.{Gives}
use Rattle.gpkt.specs.Packets.{Bytes, Packet, Flush, ResponseEnd, canonical, canonical_all}
use Rattle.ggrammar.specs.Texts.{text_packet}
use Rattle.ggrammar.specs.Endings.{ends_with}
use Rattle.ggrammar.specs.declared.ends.Ends.{Ends}
use Rattle.ggrammar.specs.declared.ends.Ends.TheVariants.{Response}
use Rattle.gfetchreply.specs.FetchReplies.{ack_packet, data_packet, heading_packet, ready_packet}
use Rattle.gfetchreply.specs.Values.{Acks}
use Rattle.gserver.specs.PackSaying.{May}
use Rattle.gserver.specs.Saying.{EndsPack, SaysAfterAcks, SaysRest, acks_or_nak, fatal_packet, steps_after_acks, steps_of}
use Rattle.gserver.specs.steps.Filling.{SaysPiece}
use Rattle.gserver.specs.steps.Stepping.{FollowsHeading, PutsLast, PutsSome, StepsFrom, end_of}
use Rattle.gserver.specs.declared.filling.Piece.TheVariants as piece
use Rattle.gserver.specs.declared.said.Rest.{Rest}
use Rattle.gserver.specs.declared.said.Rest.TheVariants as rest

-- ---- queued packets

one_spelt : (packet : Packet) (before out : Bytes) → out ≡ before ++ canonical packet
    → out ≡ before ++ canonical_all (packet ∷ [])
one_spelt packet before out is = is ∙ ap (λ l. before ++ l) (sym (append-nil (canonical packet)))

pub puts_one : (packet : Packet) (old new : May) (steps_old steps_new : ℕ) (before out : Bytes)
    → out ≡ before ++ canonical packet
    → ((rest : List Packet) (goes : Bool) → new rest goes → old (packet ∷ rest) goes) → steps_new < steps_old
    → PutsSome old new steps_old steps_new before out
puts_one packet old new steps_old steps_new before out is goes less = record {
  said = packet ∷ [];
  spelt = one_spelt packet before out is;
  goes_on = goes;
  nearer = less;
}

pub puts_none : (old new : May) (steps_old steps_new : ℕ) (before : Bytes)
    → ((rest : List Packet) (goes : Bool) → new rest goes → old rest goes) → steps_new < steps_old
    → PutsSome old new steps_old steps_new before before
puts_none old new steps_old steps_new before goes less = record {
  said = [];
  spelt = sym (append-nil before);
  goes_on = goes;
  nearer = less;
}

pub last_one : (packet : Packet) (old : May) (goes : Bool) (before out : Bytes) → out ≡ before ++ canonical packet
    → old (packet ∷ []) goes → PutsLast old goes before out
last_one packet old goes before out is all = record {
  said = packet ∷ [];
  spelt = one_spelt packet before out is;
  all = all;
}

-- the ids from index `at` on are the id at this index, followed by the later ids
pub ids_from : (ids lent : List Id) (at : ℕ) (id : Id) → lent ≡ ids → at < length lent → id ≡ get_or lent at id
    → drop at ids ≡ id ∷ drop (at + 1) ids
ids_from ids lent at id same less is =
    subst (λ l. drop at l ≡ id ∷ drop (at + 1) l) same
    (drop-cons lent at id less ∙ ap₂ (λ x l. x ∷ l) (sym is) (ap (λ n. drop n lent) (sym (add-one at))))

pub no_ids_from : (ids lent : List Id) (at : ℕ) → lent ≡ ids → length lent ≤ at → drop at ids ≡ []
no_ids_from ids lent at same past =
    subst (λ l. drop at l ≡ []) same (nil_from_length (drop at lent) (omega (arith, length-drop at lent, past)))

-- `EndsPack` still holds with one more packet at the front
ended_after : (ends : Ends) (goes_on : Bool) (packet : Packet) (packets : List Packet) (end : Option PackFault)
    (said : List Packet) (goes : Bool) → EndsPack ends goes_on packets end said goes
    → EndsPack ends goes_on (packet ∷ packets) end (packet ∷ said) goes
ended_after ends goes_on packet packets None said goes h = (ap (λ l. packet ∷ l) h.0, h.1)
ended_after ends goes_on packet packets (Some fault) said goes h = (ap (λ l. packet ∷ l) h.0, h.1)

module _ (A : Type 0) {R P : Type 0} (gives : R → P → Gives) (most : R → P → ℕ) (ends : Ends) (goes_on : Bool) where
  -- ---- the acknowledgments

  pub heading_said : (acks : Acks) (pack : Option (R × P)) (after : Rest A R P) (before out : Bytes)
      → FollowsHeading acks.ids pack after → out ≡ before ++ canonical heading_packet
      → PutsSome (SaysRest {A = A} gives ends goes_on (rest.AckHeading acks pack)) (SaysRest gives ends goes_on after)
      (steps_of {A = A} most (rest.AckHeading acks pack)) (steps_of most after) before out
  heading_said acks pack rest.Nak before out follows is =
      let none : acks_or_nak acks.ids pack ≡ text_packet (codes "NAK") ∷ [] = ap₂ acks_or_nak follows.0 follows.1 in
      puts_one heading_packet _ _ _ _ before out is
      (λ more goes h. record {
        rest = h.rest;
        parts = ap (λ l. heading_packet ∷ l) (h.parts ∙ ap (λ l. l ++ h.rest) (sym none));
        then = subst (λ p. SaysAfterAcks gives ends goes_on p h.rest goes) (sym follows.1) h.then;
      })
      (omega arith)
  heading_said acks pack (rest.Ack other at same) before out follows is =
      let all : acks_or_nak acks.ids pack ≡ map ack_packet (drop at other.ids) =
      follows.3 ∙ ap (map ack_packet) (sym follows.0) ∙ ap (λ n. map ack_packet (drop n other.ids)) (sym follows.1) in
      puts_one heading_packet _ _ _ _ before out is
      (λ more goes h. record {
        rest = h.rest;
        parts = ap (λ l. heading_packet ∷ l) (h.parts ∙ ap (λ l. l ++ h.rest) (sym all));
        then = subst (λ p. SaysAfterAcks gives ends goes_on p h.rest goes) follows.2 h.then;
      })
      (let long = ap length follows.0 in let steps = ap (steps_after_acks most) follows.2 in omega (arith, long, steps))
  heading_said acks pack rest.Nothing before out follows is = elim follows [ ]
  heading_said acks pack (rest.Refusal text) before out follows is = elim follows [ ]
  heading_said acks pack (rest.AckHeading other same) before out follows is = elim follows [ ]
  heading_said acks pack (rest.Delim packer parts) before out follows is = elim follows [ ]
  heading_said acks pack (rest.PackHeading packer parts) before out follows is = elim follows [ ]
  heading_said acks pack (rest.Pack packer parts) before out follows is = elim follows [ ]
  heading_said acks pack rest.Flush before out follows is = elim follows [ ]
  heading_said acks pack rest.ResponseEnd before out follows is = elim follows [ ]

  pub ack_said : (acks : Acks) (at : ℕ) (pack : Option (R × P)) (id : Id) (before out : Bytes) → at < length acks.ids
      → drop at acks.ids ≡ id ∷ drop (at + 1) acks.ids → out ≡ before ++ canonical (ack_packet id)
      → PutsSome (SaysRest {A = A} gives ends goes_on (rest.Ack acks at pack)) (SaysRest {A = A} gives ends goes_on (rest.Ack acks (at + 1) pack))
      (steps_of {A = A} most (rest.Ack acks at pack)) (steps_of {A = A} most (rest.Ack acks (at + 1) pack)) before out
  ack_said acks at pack id before out less parts is =
      puts_one (ack_packet id) _ _ _ _ before out is
      (λ more goes h. record {
        rest = h.rest;
        parts = ap (λ l. ack_packet id ∷ l) h.parts ∙ ap (λ l. map ack_packet l ++ h.rest) (sym parts);
        then = h.then;
      })
      (omega (arith, less))

  pub ready_said : (acks : Acks) (at : ℕ) (pack : Option (R × P)) (packer : R) (parts : P) (before out : Bytes)
      → drop at acks.ids ≡ [] → pack ≡ Some (packer, parts) → out ≡ before ++ canonical ready_packet
      → PutsSome (SaysRest {A = A} gives ends goes_on (rest.Ack acks at pack)) (SaysRest {A = A} gives ends goes_on (rest.Delim packer parts))
      (steps_of {A = A} most (rest.Ack acks at pack)) (steps_of {A = A} most (rest.Delim packer parts)) before out
  ready_said acks at pack packer parts before out none some is =
      let steps = ap (steps_after_acks most) some in
      puts_one ready_packet _ _ _ _ before out is
      (λ more goes h. record {
        rest = ready_packet ∷ more;
        parts = ap (λ l. map ack_packet l ++ ready_packet ∷ more) (sym none);
        then = subst (λ p. SaysAfterAcks gives ends goes_on p (ready_packet ∷ more) goes) (sym some) (record {
          rest = h.rest;
          parts = ap (λ l. ready_packet ∷ l) h.parts;
          then = h.then;
        });
      })
      (omega (arith, steps))

  pub acks_over : (acks : Acks) (at : ℕ) (pack : Option (R × P)) (before : Bytes)
      → drop at acks.ids ≡ [] → pack ≡ None
      → PutsSome (SaysRest {A = A} gives ends goes_on (rest.Ack acks at pack)) (SaysRest {A = A} gives ends goes_on rest.Flush)
      (steps_of {A = A} most (rest.Ack acks at pack)) 1 before before
  acks_over acks at pack before none without =
      let steps = ap (steps_after_acks most) without in
      puts_none _ _ _ _ before
      (λ more goes h. record {
        rest = more;
        parts = ap (λ l. map ack_packet l ++ more) (sym none);
        then = subst (λ p. SaysAfterAcks gives ends goes_on p more goes) (sym without) h;
      })
      (omega (arith, steps))

  -- ---- the pack

  pub piece_said : (packer : R) (parts after : P) (before out : Bytes)
      → SaysPiece (gives packer parts) (most packer parts) (gives packer after) (most packer after) before out piece.More
      → PutsSome (SaysRest {A = A} gives ends goes_on (rest.Pack packer parts)) (SaysRest {A = A} gives ends goes_on (rest.Pack packer after))
      (most packer parts + 2) (most packer after + 2) before out
  piece_said packer parts after before out says = record {
    said = data_packet says.0 ∷ [];
    spelt = says.1;
    goes_on = λ more goes h. record {
      packets = data_packet says.0 ∷ h.packets;
      end = h.end;
      pack = says.3 h.packets h.end h.pack;
      ended = ended_after ends goes_on (data_packet says.0) h.packets h.end more goes h.ended;
    };
    nearer = omega (arith, says.2);
  }

  pub pack_said : (packer : R) (parts : P) (new : Gives) (most_new : ℕ) (before out : Bytes)
      → SaysPiece (gives packer parts) (most packer parts) new most_new before out piece.Whole
      → PutsSome (SaysRest {A = A} gives ends goes_on (rest.Pack packer parts)) (SaysRest {A = A} gives ends goes_on rest.Flush)
      (most packer parts + 2) 1 before out
  pack_said packer parts new most_new before out says = record {
    said = says.0;
    spelt = says.1;
    goes_on = λ more goes h. record {
      packets = says.0;
      end = None;
      pack = says.2;
      ended = (ap (λ l. says.0 ++ l) h.0, h.1);
    };
    nearer = omega arith;
  }

  pub failure_said : (packer : R) (parts : P) (new : Gives) (most_new : ℕ) (fault : PackFault) (before out put : Bytes)
      → SaysPiece (gives packer parts) (most packer parts) new most_new before out (piece.Failed fault)
      → put ≡ out ++ canonical (fatal_packet fault)
      → PutsLast (SaysRest {A = A} gives ends goes_on (rest.Pack packer parts)) false before put
  failure_said packer parts new most_new fault before out put says is =
      last_one (fatal_packet fault) _ false before put (is ∙ ap (λ o. o ++ canonical (fatal_packet fault)) says.0)
      (record { packets = []; end = Some fault; pack = says.1; ended = (refl, refl) })

-- ---- the end of a reply

module _ (A : Type 0) {R P : Type 0} (gives : R → P → Gives) (most : R → P → ℕ) (ends : Ends) where
  pub response_ended : (goes_on : Bool) (before out : Bytes) → out ≡ before ++ canonical ResponseEnd
      → StepsFrom {A = A} gives most ends goes_on rest.ResponseEnd before out (end_of goes_on)
  response_ended true before out is = last_one ResponseEnd _ true before out is (refl, refl)
  response_ended false before out is = last_one ResponseEnd _ false before out is (refl, refl)

  pub flush_said : (goes_on : Bool) (before out : Bytes) → ends ≡ Response → out ≡ before ++ canonical Flush
      → PutsSome (SaysRest {A = A} gives ends goes_on rest.Flush) (SaysRest {A = A} gives ends goes_on rest.ResponseEnd) 1 0 before out
  flush_said goes_on before out response is =
      puts_one Flush _ _ _ _ before out is
      (λ more goes h. (ap (λ l. Flush ∷ l) (h.0 ∙ ap ends_with (sym response)), h.1))
      (omega arith)
