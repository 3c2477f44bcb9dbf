-- The lines of a scenario.
use Rattle.std.proofs.Common.{◌≡◌, ◌∙◌, inl, inr, ℕ, suc, ◌+◌, ◌≤◌, List, [], ◌∷◌, ◌++◌, length, Option, None, Some}
use Rattle.std.proofs.Common.{MatchOption, refl, sym, ap, subst, arith, append_assoc, append-nil}
use Rattle.std.proofs.lemmas.List.{length-append}
use Rattle.std.proofs.lemmas.Option.{MatchOption-at_none, MatchOption-at_some}
use Rattle.gobject.specs.PlainPackText.{IsInLine, line}
use Rattle.gobject.proofs.PlainPackLines.{line_parts}
use Rattle.gscenario.specs.ScenarioText.{BeginsWithCommand, BeginsWrong, IsLineOf, IsNoLine, IsScenario, IsWrongLine}
use Rattle.gscenario.specs.ScenarioText.{TakesMemory, command_text}
use Rattle.gscenario.specs.declared.command.EventWord.{EventWord}
use Rattle.gscenario.specs.declared.event.Event.{Event}
use Rattle.gscenario.specs.declared.command.EventWord.TheVariants as command
use Rattle.std.specs.Prelude.{codes, if◌then◌else◌}
use Rattle.std.specs.Str.{bytes_eq}

-- ---- the command and the end of a line

-- the command that a word names, or `ClientRef` for any other word
abbrev named : List ℕ → EventWord
named text =
    if bytes_eq text (codes "begin") then command.Begin
    else if bytes_eq text (codes "ask") then command.Ask
    else if bytes_eq text (codes "serve") then command.Serve
    else if bytes_eq text (codes "deliver") then command.Deliver
    else if bytes_eq text (codes "forge") then command.Forge
    else if bytes_eq text (codes "stranger") then command.StrangeRequest
    else if bytes_eq text (codes "settle") then command.Settle
    else if bytes_eq text (codes "restart-client") then command.RestartClient
    else if bytes_eq text (codes "restart-server") then command.RestartServer
    else if bytes_eq text (codes "server-add") then command.ServerAdd
    else if bytes_eq text (codes "server-ref") then command.ServerRef
    else if bytes_eq text (codes "client-add") then command.ClientAdd
    else command.ClientRef

named_back : (c : EventWord) → named (command_text c) ≡ c
named_back command.Begin = refl
named_back command.Ask = refl
named_back command.Serve = refl
named_back command.Deliver = refl
named_back command.Forge = refl
named_back command.StrangeRequest = refl
named_back command.Settle = refl
named_back command.RestartClient = refl
named_back command.RestartServer = refl
named_back command.ServerAdd = refl
named_back command.ServerRef = refl
named_back command.ClientAdd = refl
named_back command.ClientRef = refl

pub same_command : (c d : EventWord) → command_text c ≡ command_text d → c ≡ d
same_command c d same = sym (named_back c) ∙ ap named same ∙ named_back d

line_then : (here after : List ℕ) → line here ++ after ≡ here ++ 10 ∷ after
line_then here after = append_assoc here (10 ∷ []) after

-- if two equal texts begin with lines, these lines are equal, and so are the texts after them
pub same_lines : (one other rest more : List ℕ) → IsInLine one → IsInLine other → one ++ 10 ∷ rest ≡ other ++ 10 ∷ more
    → (one ≡ other) × (rest ≡ more)
same_lines one other rest more h k same =
    line_parts one other rest more h k (line_then one rest ∙ same ∙ sym (line_then other more))

pub unended_none : (other rest : List ℕ) → [] ≡ other ++ 10 ∷ rest → ⊥
unended_none [] rest same = cc
unended_none (b ∷ other) rest same = cc

unended : (text other rest : List ℕ) → IsInLine text → text ≡ other ++ 10 ∷ rest → ⊥
unended [] other rest inside same = unended_none other rest same
unended (b ∷ text) [] rest inside same = inside 0 (cc)
unended (b ∷ text) (c ∷ other) rest inside same = unended text other rest (λ at. inside (suc at)) (cc)

module _ {A : Type 0} where
  -- ---- the lines

  -- the lines of the text before `left` were read, and encode the events; `number` is the number of the next line
  pub record ReadsLines (text left : List ℕ) (events : List (Event A)) (number : ℕ) : Type 0 where
    pub front : List ℕ
    pub parts : text ≡ front ++ left
    pub before : IsScenario front events
    pub at : number ≡ length events + 1
    pub few : number + length left ≤ length text + 1

  pub reads_no_line : (text : List ℕ) → ReadsLines text text [] 1
  reads_no_line text = record { front = []; parts = refl; before = refl; at = refl; few = omega arith }

  scenario_push : (front here : List ℕ) (events : List (Event A)) (event : Event A) → IsScenario front events
      → IsInLine here → IsLineOf here event → IsScenario (front ++ line here) (events ++ event ∷ [])
  scenario_push front here [] event none inside is =
      (here, [], ap (λ (f : List ℕ). f ++ line here) none, inside, is, refl)
  scenario_push front here (first ∷ events) event all inside is = (
    all.0,
    all.1 ++ line here,
    ap (λ (f : List ℕ). f ++ line here) all.2 ∙ append_assoc all.0 (10 ∷ all.1) (line here),
    all.3,
    all.4,
    scenario_push all.1 here events event all.5 inside is,
  )

  pub all_read : (text left : List ℕ) (events : List (Event A)) (number : ℕ) → ReadsLines text left events number
      → left ≡ [] → IsScenario text events
  all_read text left events number reads none =
      subst (λ (t : List ℕ). IsScenario t events)
      (sym (reads.parts ∙ ap (λ (l : List ℕ). reads.front ++ l) none ∙ append-nil reads.front)) reads.before

  module _ (text left here after : List ℕ) (events : List (Event A)) (number : ℕ)
      (reads : ReadsLines text left events number) (split : (left ≡ line here ++ after) × IsInLine here) where
    -- if the next line does not encode an event, it is the first malformed line
    pub stops_at : (found : Option (Event A)) → found ≡ None → MatchOption found (IsNoLine A here) (IsLineOf here)
        → IsWrongLine A text number
    stops_at found none is = record {
      front = reads.front;
      rest = left;
      events = events;
      parts = reads.parts;
      before = reads.before;
      wrong =
          inl (here, after, split.0 ∙ line_then here after, split.1, MatchOption-at_none _ (IsLineOf here) none is);
      at = reads.at;
    }

    -- if the next line encodes an event, the lines that were read grow by this line, and the events by this event
    pub goes_on : (now : List (Event A)) (event : Event A) (found : Option (Event A)) → found ≡ Some event
        → MatchOption found (IsNoLine A here) (IsLineOf here) → now ≡ events ++ event ∷ []
        → ReadsLines text after now (number + 1)
    goes_on now event found some is grown =
        let many = ap (λ (l : List (Event A)). length l) grown ∙ length-append events (event ∷ []) in
        let long = ap (λ (l : List ℕ). length l) split.0 ∙ length-append (line here) after in
        record {
          front = reads.front ++ line here;
          parts =
              reads.parts ∙ ap (λ (l : List ℕ). reads.front ++ l) split.0
              ∙ sym (append_assoc reads.front (line here) after);
          before =
              subst (IsScenario (reads.front ++ line here)) (sym grown)
              (scenario_push reads.front here events event reads.before split.1
              (MatchOption-at_some _ (IsLineOf here) event some is));
          at = omega (arith, reads.at, many);
          few = omega (arith, reads.few, long, length-append here (10 ∷ []));
        }

    -- if the next line begins with a command, the event of this line can need memory
    pub takes_memory : BeginsWithCommand here → TakesMemory A text
    takes_memory begins = record {
      front = reads.front;
      line = here;
      rest = after;
      events = events;
      parts = reads.parts ∙ ap (λ (l : List ℕ). reads.front ++ l) (split.0 ∙ line_then here after);
      before = reads.before;
      inside = split.1;
      begins = begins;
    }

  -- ---- texts with a malformed line

  begins_no_event : (left here after : List ℕ) (event : Event A) → BeginsWrong A left → left ≡ here ++ 10 ∷ after
      → IsInLine here → IsLineOf here event → ⊥
  begins_no_event left here after event (inl wrong) at inside is =
      let same = same_lines wrong.0 here wrong.1 after wrong.3 inside (sym wrong.2 ∙ at) in
      wrong.4 event (subst (λ (l : List ℕ). IsLineOf l event) (sym same.0) is)
  begins_no_event left here after event (inr wrong) at inside is = unended left here after wrong.1 at

  begins_no_scenario : (rest : List ℕ) (events : List (Event A)) → BeginsWrong A rest → ¬ (IsScenario rest events)
  begins_no_scenario rest [] (inl wrong) is = unended_none wrong.0 wrong.1 (sym is ∙ wrong.2)
  begins_no_scenario rest [] (inr wrong) is = wrong.0 is
  begins_no_scenario rest (event ∷ events) wrong is =
      begins_no_event rest is.0 is.1 event wrong is.2 is.3 is.4

  wrong_after : (front rest : List ℕ) (before events : List (Event A)) → IsScenario front before → BeginsWrong A rest
      → IsScenario (front ++ rest) events → ⊥
  wrong_after front rest [] events none wrong is =
      begins_no_scenario rest events wrong (subst (λ (f : List ℕ). IsScenario (f ++ rest) events) none is)
  wrong_after front rest (first ∷ before) [] all wrong is =
      let none : (all.0 ++ 10 ∷ all.1) ++ rest ≡ [] = ap (λ (f : List ℕ). f ++ rest) (sym all.2) ∙ is in
      let shape = append_assoc all.0 (10 ∷ all.1) rest in
      unended_none all.0 (all.1 ++ rest) (sym none ∙ shape)
  wrong_after front rest (first ∷ before) (event ∷ events) all wrong is =
      let shape : front ++ rest ≡ all.0 ++ 10 ∷ (all.1 ++ rest) =
      ap (λ (f : List ℕ). f ++ rest) all.2 ∙ append_assoc all.0 (10 ∷ all.1) rest in
      let same = same_lines all.0 is.0 (all.1 ++ rest) is.1 all.3 is.3 (sym shape ∙ is.2) in
      wrong_after all.1 rest before events all.5 wrong (subst (λ (t : List ℕ). IsScenario t events) (sym same.1) is.5)

  pub wrong_is_none : (text : List ℕ) (number : ℕ) (events : List (Event A)) → IsWrongLine A text number
      → ¬ (IsScenario text events)
  wrong_is_none text number events wrong is =
      wrong_after wrong.front wrong.rest wrong.events events wrong.before wrong.wrong
      (subst (λ (t : List ℕ). IsScenario t events) wrong.parts is)

  -- ---- uniqueness of the first malformed line

  same_count : (front left other rest : List ℕ) (events others : List (Event A)) → IsScenario front events
      → BeginsWrong A left → IsScenario other others → BeginsWrong A rest → front ++ left ≡ other ++ rest
      → length events ≡ length others
  same_count front left other rest [] [] h wrong k bad same = refl
  same_count front left other rest [] (event ∷ others) h wrong k bad same =
      let at : left ≡ k.0 ++ 10 ∷ (k.1 ++ rest) =
      ap (λ (f : List ℕ). f ++ left) (sym h) ∙ same ∙ ap (λ (f : List ℕ). f ++ rest) k.2
      ∙ append_assoc k.0 (10 ∷ k.1) rest in
      absurd (begins_no_event left k.0 (k.1 ++ rest) event wrong at k.3 k.4)
  same_count front left other rest (event ∷ events) [] h wrong k bad same =
      let at : rest ≡ h.0 ++ 10 ∷ (h.1 ++ left) =
      ap (λ (f : List ℕ). f ++ rest) (sym k) ∙ sym same ∙ ap (λ (f : List ℕ). f ++ left) h.2
      ∙ append_assoc h.0 (10 ∷ h.1) left in
      absurd (begins_no_event rest h.0 (h.1 ++ left) event bad at h.3 h.4)
  same_count front left other rest (event ∷ events) (first ∷ others) h wrong k bad same =
      let at : front ++ left ≡ h.0 ++ 10 ∷ (h.1 ++ left) =
      ap (λ (f : List ℕ). f ++ left) h.2 ∙ append_assoc h.0 (10 ∷ h.1) left in
      let there : other ++ rest ≡ k.0 ++ 10 ∷ (k.1 ++ rest) =
      ap (λ (f : List ℕ). f ++ rest) k.2 ∙ append_assoc k.0 (10 ∷ k.1) rest in
      let both = same_lines h.0 k.0 (h.1 ++ left) (k.1 ++ rest) h.3 k.3 (sym at ∙ same ∙ there) in
      let further = same_count h.1 left k.1 rest events others h.5 wrong k.5 bad both.1 in
      omega (arith, further)

  pub one_place : (text : List ℕ) (a b : ℕ) → IsWrongLine A text a → IsWrongLine A text b → a ≡ b
  one_place text a b h k =
      let count =
      same_count h.front h.rest k.front k.rest h.events k.events h.before h.wrong k.before k.wrong
      (sym h.parts ∙ k.parts) in
      h.at ∙ ap (λ (n : ℕ). n + 1) count ∙ sym k.at
