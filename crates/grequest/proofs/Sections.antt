-- The sections of a request: the texts that a capability list and a list of arguments may have, and the next text that
-- the judge accepts.
use Rattle.std.proofs.Common.{◌≡◌, ℕ, ◌+◌, ◌<◌, ◌≤◌, ◌==◌, Bool, true, false, cond, List, [], ◌∷◌, ◌++◌, length, Option, Some, None, refl, sym, ap, subst, ◌∙◌, arith}
use Rattle.std.specs.Option.{option_to_list}
use Rattle.std.specs.Prelude.{All, is_none, is_some, nat_lt}
use Rattle.std.proofs.lemmas.Bool.{and_parts, and_from, ltb-true, lt-ltb, eqb-true, eq-eqb}
use Rattle.std.proofs.lemmas.List.{length-append, length_push, nil_from_length}
use Rattle.std.proofs.lemmas.List.Elements.{All-nil, All-push, All-head, All-tail}
use Rattle.gname.specs.Names.{prefix_fault}
use Rattle.gname.specs.Formats.{format_name}
use Rattle.gname.specs.declared.formats.Format.{Format}
use Rattle.ggrammar.specs.Grammar.{Verdict, Open, Refused, if_room}
use Rattle.ggrammar.specs.Ids.{id_of_text}
use Rattle.ggrammar.specs.declared.limits.Limits.{Limits}
use Rattle.ggrammar.specs.declared.fault.Why.{Why}
use Rattle.ggrammar.specs.declared.fault.Why.TheVariants.{Format as WrongFormat, BadName, BadId}
use Rattle.std.specs.List.{filter_map}
use Rattle.ggrammar.proofs.PlaceLemmas.{filter_map-push}
use Rattle.ggrammar.proofs.VerdictLemmas.{room_left}
use Rattle.gname.proofs.ListLemmas.{All-parts}
use Rattle.grequest.specs.declared.command.Command.{Command}
use Rattle.grequest.specs.declared.command.Command.TheVariants.{LsRefs, Fetch}
use Rattle.grequest.specs.Arguments.{is_word, CapabilityForm, Agent, ObjectFormat, capability_form, LsArgument, KnownLsFlag, RefPrefix, UnknownLsArgument, ls_argument, FetchArgument, KnownFetchFlag, Want, Have, UnknownFetchArgument, fetch_argument}
use Rattle.grequest.specs.Asked.{max_prefixes, max_wants, max_haves, max_arguments}
use Rattle.grequest.specs.RequestLines.{InCapabilities, InArguments, agents, agent_value, formats, format_value, prefix_value, prefixes, want_value, wants, have_value, haves, first_of, asked_by_command}
use Rattle.grequest.specs.Requests.{agent_of, of_few, judge_capability, judge_ls_argument, judge_fetch_argument, judge_argument}
use Rattle.grequest.specs.Manual.{IsCapability, IsLsArgument, IsFetchArgument, IsArgument, AreFew}
use Rattle.grequest.proofs.StateLemmas.{state_at, agent_of-by, first_of-none}
use Rattle.grequest.proofs.Texts.{word_is, is_word-same}

-- ---- lists

pub is_none-None : {X : Type 0} (o : Option X) → is_none o ≡ true → o ≡ None
is_none-None None e = refl
is_none-None (Some x) e = cc

-- the number of values in some texts, after one more text
count_push : {Y Z : Type 0} (form_of : List ℕ → Y) (give : Y → Option Z) (lines : List (List ℕ)) (line : List ℕ)
    (form : Y) → form_of line ≡ form → length (filter_map (λ text. give (form_of text)) (lines ++ line ∷ []))
    ≡ length (filter_map (λ text. give (form_of text)) lines) + length (option_to_list (give form))
count_push form_of give lines line form is =
    ap length (filter_map-push (λ text. give (form_of text)) lines line _ (ap give is)) ∙ length-append _ _

-- ---- verdicts

if_opens : (b : Bool) (verdict : Verdict) (why : Why) → cond b verdict (Refused why) ≡ Open → (b ≡ true) × (verdict ≡ Open)
if_opens true verdict why e = (refl, e)
if_opens false verdict why e = cc

opens_if : (b : Bool) (verdict : Verdict) (why : Why) → b ≡ true → verdict ≡ Open → cond b verdict (Refused why) ≡ Open
opens_if true verdict why h e = e
opens_if false verdict why h e = cc

-- ---- the capability list

pub record AreCapabilities (format : Format) (lines : List (List ℕ)) : Type 0 where
  pub are : All (λ line. IsCapability format (capability_form line)) lines
  pub one_agent : length (agents lines) ≤ 1
  pub one_format : length (formats lines) ≤ 1

pub AreCapabilities-nil : (format : Format) → AreCapabilities format []
AreCapabilities-nil format = record { are = All-nil (λ line. IsCapability format (capability_form line)); one_agent = omega arith; one_format = omega arith }

-- the judge accepts a capability of this form after the capabilities `lines`
abbrev pub TakesCapability : Format → Command → List (List ℕ) → List (List ℕ) → CapabilityForm → Type 0
TakesCapability format command lines arguments form = judge_capability format (state_at format (InCapabilities command) lines arguments) form ≡ Open

capability_joins : (format : Format) (command : Command) (lines arguments : List (List ℕ)) (line : List ℕ) (form : CapabilityForm) → capability_form line ≡ form
    → AreCapabilities format lines → TakesCapability format command lines arguments form → AreCapabilities format (lines ++ line ∷ [])
capability_joins format command lines arguments line (Agent value) is h takes =
    let first = if_opens (is_none (agent_of (asked_by_command format command lines arguments))) Open _ takes in
    let none : agents lines ≡ [] = first_of-none (agents lines) (ap is_none (sym (agent_of-by format command lines arguments)) ∙ first.0) in
    let none_yet : length (agents lines) ≡ 0 = ap length none in
    record {
      are = All-push (λ line. IsCapability format (capability_form line)) lines line h.are (subst (IsCapability format) (sym is) tt);
      one_agent = omega (arith, count_push capability_form agent_value lines line _ is);
      one_format = omega (arith, count_push capability_form format_value lines line _ is, h.one_format);
    }
capability_joins format command lines arguments line (ObjectFormat value) is h takes =
    let first = if_opens (length (formats lines) == 0) (cond (is_word (format_name format) value) Open (Refused WrongFormat)) _ takes in
    let none_yet : length (formats lines) ≡ 0 = eqb-true (length (formats lines)) 0 first.0 in
    let named : value ≡ format_name format = word_is (format_name format) value (if_opens (is_word (format_name format) value) Open WrongFormat first.1).0 in
    record {
      are = All-push (λ line. IsCapability format (capability_form line)) lines line h.are (subst (IsCapability format) (sym is) named);
      one_agent = omega (arith, count_push capability_form agent_value lines line _ is, h.one_agent);
      one_format = omega (arith, count_push capability_form format_value lines line _ is);
    }
capability_joins format command lines arguments line _ is h takes = absurd cc

pub AreCapabilities-push : (format : Format) (command : Command) (lines arguments : List (List ℕ)) (line : List ℕ)
    → AreCapabilities format lines → TakesCapability format command lines arguments (capability_form line) → AreCapabilities format (lines ++ line ∷ [])
AreCapabilities-push format command lines arguments line h takes = capability_joins format command lines arguments line (capability_form line) refl h takes

capability_taken : (format : Format) (command : Command) (lines arguments : List (List ℕ)) (line : List ℕ) (form : CapabilityForm) → capability_form line ≡ form
    → IsCapability format form → length (agents (lines ++ line ∷ [])) ≤ 1 → length (formats (lines ++ line ∷ [])) ≤ 1
    → TakesCapability format command lines arguments form
capability_taken format command lines arguments line (Agent value) is h one_agent one_format =
    let none : agents lines ≡ [] = nil_from_length (agents lines) (omega (arith, count_push capability_form agent_value lines line _ is)) in
    opens_if (is_none (agent_of (asked_by_command format command lines arguments))) Open _ (ap is_none (agent_of-by format command lines arguments ∙ ap first_of none)) refl
capability_taken format command lines arguments line (ObjectFormat value) is h one_agent one_format =
    let none_yet : length (formats lines) ≡ 0 = omega (arith, count_push capability_form format_value lines line _ is) in
    opens_if (length (formats lines) == 0) (cond (is_word (format_name format) value) Open (Refused WrongFormat)) _ (eq-eqb (length (formats lines)) 0 none_yet)
    (opens_if (is_word (format_name format) value) Open WrongFormat (is_word-same (format_name format) value h) refl)
capability_taken format command lines arguments line _ is h one_agent one_format = absurd h

pub AreCapabilities-parts : (format : Format) (command : Command) (lines arguments : List (List ℕ)) (line : List ℕ) → AreCapabilities format (lines ++ line ∷ [])
    → AreCapabilities format lines × TakesCapability format command lines arguments (capability_form line)
AreCapabilities-parts format command lines arguments line h =
    let parts = All-parts (λ line. IsCapability format (capability_form line)) lines line h.are in (
      record {
        are = parts.0;
        one_agent = omega (arith, count_push capability_form agent_value lines line _ refl, h.one_agent);
        one_format = omega (arith, count_push capability_form format_value lines line _ refl, h.one_format);
      },
      capability_taken format command lines arguments line (capability_form line) refl parts.1 h.one_agent h.one_format,
    )

-- the number of capabilities is at most the number of agents plus that of object formats, since each is one of these
pub counted : (format : Format) (lines : List (List ℕ)) → All (λ line. IsCapability format (capability_form line)) lines → length lines ≤ length (agents lines) + length (formats lines)
counted format [] h = omega arith
counted format (line ∷ lines) h =
    let rest = counted format lines (All-tail (λ text. IsCapability format (capability_form text)) line lines h) in
    one_counted format line lines (capability_form line) refl (All-head (λ text. IsCapability format (capability_form text)) line lines h) rest
  where
    one_counted : (format : Format) (line : List ℕ) (lines : List (List ℕ)) (form : CapabilityForm) → capability_form line ≡ form → IsCapability format form
        → length lines ≤ length (agents lines) + length (formats lines) → length (line ∷ lines) ≤ length (agents (line ∷ lines)) + length (formats (line ∷ lines))
    one_counted format line lines (Agent value) is h rest =
        let a : agents (line ∷ lines) ≡ value ∷ agents lines = cc in
        let f : formats (line ∷ lines) ≡ formats lines = cc in
        omega (arith, ap length a, ap length f)
    one_counted format line lines (ObjectFormat value) is h rest =
        let a : agents (line ∷ lines) ≡ agents lines = cc in
        let f : formats (line ∷ lines) ≡ value ∷ formats lines = cc in
        omega (arith, ap length a, ap length f)
    one_counted format line lines _ is h rest = absurd h

pub few_capabilities : (format : Format) (lines : List (List ℕ)) → AreCapabilities format lines → length lines ≤ 2
few_capabilities format lines h = omega (arith, counted format lines h.are, h.one_agent, h.one_format)

pub at_most_one : (o : Option (List ℕ)) → length (option_to_list o) ≤ 1
at_most_one None = omega arith
at_most_one (Some x) = omega arith

one_of : (o : Option (List ℕ)) → is_some o ≡ true → length (option_to_list o) ≡ 1
one_of None e = cc
one_of (Some x) e = refl

-- ---- the arguments

pub record AreArguments (limits : Limits) (format : Format) (command : Command) (lines : List (List ℕ)) : Type 0 where
  pub are : All (IsArgument format command) lines
  pub few : AreFew limits format command lines
  pub room : length lines ≤ max_arguments

AreFew-nil : (limits : Limits) (format : Format) (command : Command) → AreFew limits format command []
AreFew-nil limits format LsRefs = omega arith
AreFew-nil limits format Fetch = (omega arith, omega arith)

pub AreArguments-nil : (limits : Limits) (format : Format) (command : Command) → AreArguments limits format command []
AreArguments-nil limits format command = record { are = All-nil (IsArgument format command); few = AreFew-nil limits format command; room = omega arith }

-- the judge accepts the argument `line` after the arguments `lines`
abbrev pub TakesArgument : Limits → Format → Command → List (List ℕ) → List (List ℕ) → List ℕ → Type 0
TakesArgument limits format command capabilities lines line = judge_argument limits format command (state_at format (InArguments command) capabilities lines) line ≡ Open

room_for : (b : Bool) → b ≡ true → if_room b ≡ Open
room_for true e = refl
room_for false e = cc

-- an argument of a kind whose number is limited
module _ (test : Bool) (lines before : List (List ℕ)) (limit : ℕ) (why : Why) where
  few_found : cond test (of_few (length lines) before limit) (Refused why) ≡ Open
      → (test ≡ true) × (length lines < max_arguments) × (length before < limit)
  few_found e =
      let h = if_opens test (of_few (length lines) before limit) why e in
      let rooms = and_parts (nat_lt (length lines) max_arguments) (nat_lt (length before) limit) (room_left _ h.1) in
      (h.0, ltb-true (length lines) max_arguments rooms.0, ltb-true (length before) limit rooms.1)

  few_taken : test ≡ true → length lines < max_arguments → length before < limit
      → cond test (of_few (length lines) before limit) (Refused why) ≡ Open
  few_taken h room few =
      opens_if test (of_few (length lines) before limit) why h
      (room_for _ (and_from _ _ (lt-ltb (length lines) max_arguments room) (lt-ltb (length before) limit few)))

-- the facts about an accepted argument: it is well-formed, it has room, and the limit on its kind is kept
record Found (kind : Type 0) (is : Type 0) (lines : List (List ℕ)) : Type 0 where
  form : is
  room : length lines < max_arguments
  few : kind

ls_found : (limits : Limits) (lines : List (List ℕ)) (form : LsArgument) → length (prefixes lines) ≤ max_prefixes limits
    → judge_ls_argument limits (length lines) (prefixes lines) form ≡ Open
    → Found (length (prefixes lines) + length (option_to_list (prefix_value form)) ≤ max_prefixes limits) (IsLsArgument form) lines
ls_found limits lines (KnownLsFlag flag) few e = record { form = tt; room = ltb-true (length lines) max_arguments (room_left _ e); few = omega (arith, few) }
ls_found limits lines (RefPrefix prefix) few e =
    let h = few_found (is_none (prefix_fault prefix)) lines (prefixes lines) (max_prefixes limits) BadName e in
    record { form = is_none-None (prefix_fault prefix) h.0; room = h.1; few = omega (arith, h.2) }
ls_found limits lines UnknownLsArgument few e = absurd cc

ls_taken : (limits : Limits) (lines : List (List ℕ)) (form : LsArgument) → IsLsArgument form
    → length lines < max_arguments
    → length (prefixes lines) + length (option_to_list (prefix_value form)) ≤ max_prefixes limits
    → judge_ls_argument limits (length lines) (prefixes lines) form ≡ Open
ls_taken limits lines (KnownLsFlag flag) h room few = room_for (nat_lt (length lines) max_arguments) (lt-ltb (length lines) max_arguments room)
ls_taken limits lines (RefPrefix prefix) h room few =
    few_taken (is_none (prefix_fault prefix)) lines (prefixes lines) (max_prefixes limits) BadName (ap is_none h) room (omega (arith, few))
ls_taken limits lines UnknownLsArgument h room few = absurd h

-- after this argument, the numbers of wants and haves are within their limits
abbrev FewIds : Limits → Format → List (List ℕ) → FetchArgument → Type 0
FewIds limits format lines form =
    (length (wants format lines) + length (option_to_list (want_value format form)) ≤ max_wants limits)
    × (length (haves format lines) + length (option_to_list (have_value format form)) ≤ max_haves limits)

fetch_found : (limits : Limits) (format : Format) (lines : List (List ℕ)) (form : FetchArgument) → length (wants format lines) ≤ max_wants limits → length (haves format lines) ≤ max_haves limits
    → judge_fetch_argument limits format (length lines) (wants format lines) (haves format lines) form ≡ Open
    → Found (FewIds limits format lines form) (IsFetchArgument format form) lines
fetch_found limits format lines (KnownFetchFlag flag) few many e = record { form = tt; room = ltb-true (length lines) max_arguments (room_left _ e); few = (omega (arith, few), omega (arith, many)) }
fetch_found limits format lines (Want id) few many e =
    let h = few_found (is_some (id_of_text format id)) lines (wants format lines) (max_wants limits) BadId e in
    let one = at_most_one (id_of_text format id) in
    record { form = h.0; room = h.1; few = (omega (arith, one, h.2), omega (arith, many)) }
fetch_found limits format lines (Have id) few many e =
    let h = few_found (is_some (id_of_text format id)) lines (haves format lines) (max_haves limits) BadId e in
    let one = at_most_one (id_of_text format id) in
    record { form = h.0; room = h.1; few = (omega (arith, few), omega (arith, one, h.2)) }
fetch_found limits format lines UnknownFetchArgument few many e = absurd cc

fetch_taken : (limits : Limits) (format : Format) (lines : List (List ℕ)) (form : FetchArgument) → IsFetchArgument format form → length lines < max_arguments → FewIds limits format lines form
    → judge_fetch_argument limits format (length lines) (wants format lines) (haves format lines) form ≡ Open
fetch_taken limits format lines (KnownFetchFlag flag) h room few = room_for (nat_lt (length lines) max_arguments) (lt-ltb (length lines) max_arguments room)
fetch_taken limits format lines (Want id) h room few =
    few_taken (is_some (id_of_text format id)) lines (wants format lines) (max_wants limits) BadId h room
    (omega (arith, few.0, one_of (id_of_text format id) h))
fetch_taken limits format lines (Have id) h room few =
    few_taken (is_some (id_of_text format id)) lines (haves format lines) (max_haves limits) BadId h room
    (omega (arith, few.1, one_of (id_of_text format id) h))
fetch_taken limits format lines UnknownFetchArgument h room few = absurd h

pub AreArguments-push : (limits : Limits) (format : Format) (command : Command)
    (capabilities lines : List (List ℕ)) (line : List ℕ)
    → AreArguments limits format command lines → TakesArgument limits format command capabilities lines line → AreArguments limits format command (lines ++ line ∷ [])
AreArguments-push limits format LsRefs capabilities lines line h takes =
    let found = ls_found limits lines (ls_argument line) h.few takes in
    record {
      are = All-push (IsArgument format LsRefs) lines line h.are found.form;
      few = omega (arith, count_push ls_argument prefix_value lines line _ refl, found.few);
      room = omega (arith, length_push lines line, found.room);
    }
AreArguments-push limits format Fetch capabilities lines line h takes =
    let found = fetch_found limits format lines (fetch_argument line) h.few.0 h.few.1 takes in
    let want = count_push fetch_argument (want_value format) lines line _ refl in
    let have = count_push fetch_argument (have_value format) lines line _ refl in
    record {
      are = All-push (IsArgument format Fetch) lines line h.are found.form;
      few = (omega (arith, want, found.few.0), omega (arith, have, found.few.1));
      room = omega (arith, length_push lines line, found.room);
    }

pub AreArguments-parts : (limits : Limits) (format : Format) (command : Command) (capabilities lines : List (List ℕ)) (line : List ℕ) → AreArguments limits format command (lines ++ line ∷ [])
    → AreArguments limits format command lines × TakesArgument limits format command capabilities lines line
AreArguments-parts limits format LsRefs capabilities lines line h =
    let parts = All-parts (IsArgument format LsRefs) lines line h.are in
    let count = count_push ls_argument prefix_value lines line _ refl in
    let few = h.few in
    let room : length lines < max_arguments = omega (arith, length_push lines line, h.room) in (
      record { are = parts.0; few = omega (arith, count, few); room = omega (arith, room) },
      ls_taken limits lines (ls_argument line) parts.1 room (omega (arith, count, few)),
    )
AreArguments-parts limits format Fetch capabilities lines line h =
    let parts = All-parts (IsArgument format Fetch) lines line h.are in
    let want = count_push fetch_argument (want_value format) lines line _ refl in
    let have = count_push fetch_argument (have_value format) lines line _ refl in
    let few = h.few in
    let room : length lines < max_arguments = omega (arith, length_push lines line, h.room) in (
      record { are = parts.0; few = (omega (arith, want, few.0), omega (arith, have, few.1)); room = omega (arith, room) },
      fetch_taken limits format lines (fetch_argument line) parts.1 room (omega (arith, want, few.0), omega (arith, have, few.1)),
    )
