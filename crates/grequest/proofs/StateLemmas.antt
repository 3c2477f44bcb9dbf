-- The change that an accepted packet makes to the state of reading.
use Rattle.std.proofs.Common.{◌≡◌, ℕ, Bool, true, false, List, [], ◌∷◌, ◌++◌, length, refl, sym, ap, subst, ◌∙◌, append-nil}
use Rattle.std.specs.Prelude.{is_none}
use Rattle.std.specs.Option.{option_to_list}
use Rattle.std.proofs.lemmas.List.{length_push}
use Rattle.gpkt.specs.Packets.{Packet, Data, Flush, Delim, ResponseEnd, text}
use Rattle.gname.specs.declared.formats.Format.{Format}
use Rattle.ggrammar.specs.Grammar.{Verdict, Open, Whole}
use Rattle.ggrammar.specs.declared.limits.Limits.{Limits}
use Rattle.ggrammar.specs.MessageReading.{IsAccepted}
use Rattle.ggrammar.specs.PeerErrors.{peer_error}
use Rattle.ggrammar.specs.Places.{place_after, collect}
use Rattle.ggrammar.proofs.PlaceLemmas.{place_after-push, collect-push, filter_map-push}
use Rattle.ggrammar.proofs.VerdictLemmas.{accepted_unless}
use Rattle.grequest.specs.declared.command.Command.{Command}
use Rattle.grequest.specs.declared.command.Command.TheVariants.{LsRefs, Fetch}
use Rattle.grequest.specs.declared.command.CommandForm.{CommandForm}
use Rattle.grequest.specs.declared.command.CommandForm.TheVariants.{Known}
use Rattle.grequest.specs.Arguments.{command_form, CapabilityForm, Agent, ObjectFormat, capability_form, ls_argument, fetch_argument}
use Rattle.grequest.specs.Asked.{Asked, Ls, Fetches}
use Rattle.grequest.specs.RequestLines.{RequestPlace, First, InCapabilities, InArguments, place_of_command, next_place, place_of, capability_there, argument_there, capability_texts, argument_texts, agent_value, format_value, agents, formats, first_of, ls_refs_asked, fetch_asked, asked_by_command, asked_by_texts}
use Rattle.grequest.specs.Requests.{State, state_of, agent_of, once, judge_capability, judge_text, judge_at, judge}
use Rattle.grequest.specs.steps.RequestState.{with_command, with_agent, with_capability, with_argument, with_text}
use Rattle.grequest.specs.steps.RequestState.{with_packet}
use Rattle.grequest.proofs.AskedLemmas.{ls_refs_asked-push, fetch_asked-push}

-- ---- the section, and the texts of each section, after one more packet

place_of-push : (front : List Packet) (packet : Packet)
    → place_of (front ++ packet ∷ []) ≡ next_place (place_of front) packet
place_of-push front packet = place_after-push next_place First front packet

capability_texts-push : (front : List Packet) (packet : Packet)
    → capability_texts (front ++ packet ∷ []) ≡ capability_texts front ++ capability_there (place_of front) packet
unfolding capability_texts
capability_texts-push front packet = collect-push next_place capability_there First front packet

argument_texts-push : (front : List Packet) (packet : Packet)
    → argument_texts (front ++ packet ∷ []) ≡ argument_texts front ++ argument_there (place_of front) packet
unfolding argument_texts
argument_texts-push front packet = collect-push next_place argument_there First front packet

-- ---- the state in a section, after some texts

abbrev pub state_at : Format → RequestPlace → List (List ℕ) → List (List ℕ) → State
state_at format place capabilities arguments = record {
  place = place;
  format_lines = length (formats capabilities);
  argument_lines = length arguments;
  asked = asked_by_texts format place capabilities arguments;
}

same_state : {a b : State} → a.place ≡ b.place → a.format_lines ≡ b.format_lines → a.argument_lines ≡ b.argument_lines → a.asked ≡ b.asked → a ≡ b
same_state place formats arguments asked = λ i. record { place = place i; format_lines = formats i; argument_lines = arguments i; asked = asked i }

-- no packet leads back to the section `First`
never_first : (place : RequestPlace) (lines : List Packet) → place_after next_place place lines ≡ First → place ≡ First
never_first First lines e = refl
never_first (InCapabilities command) (Delim ∷ lines) e = let no : InArguments command ≡ First = never_first (InArguments command) lines e in cc
never_first (InCapabilities command) [] e = e
never_first (InCapabilities command) (packet ∷ lines) e = never_first (InCapabilities command) lines e
never_first (InArguments command) [] e = e
never_first (InArguments command) (packet ∷ lines) e = never_first (InArguments command) lines e

none_first : (give : RequestPlace → Packet → List (List ℕ)) → ((packet : Packet) → give First packet ≡ []) → (place : RequestPlace) (lines : List Packet)
    → place_after next_place place lines ≡ First → collect next_place give place lines ≡ []
none_first give none place [] e = refl
none_first give none place (packet ∷ lines) e =
    let here : give place packet ≡ [] = ap (λ (p : RequestPlace). give p packet) (never_first place (packet ∷ lines) e) ∙ none packet in
    ap (λ (xs : List (List ℕ)). xs ++ collect next_place give (next_place place packet) lines) here ∙ none_first give none (next_place place packet) lines e

no_capability_first : (packet : Packet) → capability_there First packet ≡ []
no_capability_first (Data payload) = refl
no_capability_first _ = refl

no_argument_first : (packet : Packet) → argument_there First packet ≡ []
no_argument_first (Data payload) = refl
no_argument_first _ = refl

pub capability_texts-first : (lines : List Packet) → place_of lines ≡ First → capability_texts lines ≡ []
unfolding capability_texts
capability_texts-first lines e = none_first capability_there no_capability_first First lines e

pub argument_texts-first : (lines : List Packet) → place_of lines ≡ First → argument_texts lines ≡ []
unfolding argument_texts
argument_texts-first lines e = none_first argument_there no_argument_first First lines e

-- ---- the first text

command_adds : (format : Format) (form : CommandForm) → state_at format (place_of_command form) [] [] ≡ with_command format (state_at format First [] []) form
command_adds format (Known command) = refl
command_adds format _ = refl

-- ---- a capability

pub agents-push : (capabilities : List (List ℕ)) (line : List ℕ) (form : CapabilityForm) → capability_form line ≡ form
    → agents (capabilities ++ line ∷ []) ≡ agents capabilities ++ option_to_list (agent_value form)
agents-push capabilities line form is =
    filter_map-push (λ text. agent_value (capability_form text)) capabilities line _ (ap agent_value is)

pub formats-push : (capabilities : List (List ℕ)) (line : List ℕ) (form : CapabilityForm) → capability_form line ≡ form
    → formats (capabilities ++ line ∷ []) ≡ formats capabilities ++ option_to_list (format_value form)
formats-push capabilities line form is =
    filter_map-push (λ text. format_value (capability_form text)) capabilities line _ (ap format_value is)

-- the contents of a request, with the agent from the list `named`
asked_with_agents : Format → Command → List (List ℕ) → List (List ℕ) → List (List ℕ) → Asked
asked_with_agents format LsRefs named capabilities arguments = Ls (record (ls_refs_asked capabilities arguments) { agent = first_of named })
asked_with_agents format Fetch named capabilities arguments = Fetches (record (fetch_asked format capabilities arguments) { agent = first_of named })

by_agents : (format : Format) (command : Command) (capabilities more arguments : List (List ℕ))
    → asked_by_command format command more arguments ≡ asked_with_agents format command (agents more) capabilities arguments
unfolding asked_with_agents
by_agents format LsRefs capabilities more arguments = refl
by_agents format Fetch capabilities more arguments = refl

first_agent : (format : Format) (command : Command) (capabilities arguments : List (List ℕ)) (value : List ℕ)
    → asked_with_agents format command (value ∷ []) capabilities arguments ≡ with_agent value (asked_by_command format command capabilities arguments)
unfolding asked_with_agents
first_agent format LsRefs capabilities arguments value = refl
first_agent format Fetch capabilities arguments value = refl

pub asked_by_command-agents : (format : Format) (command : Command) (capabilities more arguments : List (List ℕ)) → agents more ≡ agents capabilities
    → asked_by_command format command more arguments ≡ asked_by_command format command capabilities arguments
asked_by_command-agents format command capabilities more arguments e =
    by_agents format command capabilities more arguments
    ∙ ap (λ (xs : List (List ℕ)). asked_with_agents format command xs capabilities arguments) e
    ∙ sym (by_agents format command capabilities capabilities arguments)

pub first_of-none : (named : List (List ℕ)) → is_none (first_of named) ≡ true → named ≡ []
first_of-none [] e = refl
first_of-none (name ∷ named) e = cc

pub agent_of-by : (format : Format) (command : Command) (capabilities arguments : List (List ℕ)) → agent_of (asked_by_command format command capabilities arguments) ≡ first_of (agents capabilities)
agent_of-by format LsRefs capabilities arguments = refl
agent_of-by format Fetch capabilities arguments = refl

-- a capability is accepted only if it is the first of its kind
pub once-first : (is_first : Bool) (verdict : Verdict) → IsAccepted (once is_first verdict) → is_first ≡ true
once-first true verdict h = refl
once-first false verdict h = absurd h

no_agent : (format : Format) (command : Command) (capabilities arguments : List (List ℕ))
    → IsAccepted (once (is_none (agent_of (asked_by_command format command capabilities arguments))) Open) → agents capabilities ≡ []
no_agent format command capabilities arguments h =
    first_of-none (agents capabilities) (ap is_none (sym (agent_of-by format command capabilities arguments)) ∙ once-first _ Open h)

capability_adds : (format : Format) (command : Command) (capabilities arguments : List (List ℕ)) (line : List ℕ) (form : CapabilityForm) → capability_form line ≡ form
    → IsAccepted (judge_capability format (state_at format (InCapabilities command) capabilities arguments) form)
    → state_at format (InCapabilities command) (capabilities ++ line ∷ []) arguments ≡ with_capability (state_at format (InCapabilities command) capabilities arguments) form
capability_adds format command capabilities arguments line (Agent value) is h =
    let none : agents capabilities ≡ [] = no_agent format command capabilities arguments h in
    let one : agents (capabilities ++ line ∷ []) ≡ value ∷ [] = agents-push capabilities line (Agent value) is ∙ ap (λ (xs : List (List ℕ)). xs ++ value ∷ []) none in
    same_state refl (ap length (formats-push capabilities line (Agent value) is ∙ append-nil (formats capabilities))) refl
    (by_agents format command capabilities (capabilities ++ line ∷ []) arguments
    ∙ ap (λ (xs : List (List ℕ)). asked_with_agents format command xs capabilities arguments) one
    ∙ first_agent format command capabilities arguments value)
capability_adds format command capabilities arguments line (ObjectFormat value) is h =
    same_state refl (ap length (formats-push capabilities line (ObjectFormat value) is) ∙ length_push (formats capabilities) value) refl
    (asked_by_command-agents format command capabilities (capabilities ++ line ∷ []) arguments (agents-push capabilities line (ObjectFormat value) is ∙ append-nil (agents capabilities)))
capability_adds format command capabilities arguments line _ is h = absurd h

-- ---- an argument

argument_adds : (format : Format) (command : Command) (capabilities arguments : List (List ℕ)) (line : List ℕ)
    → state_at format (InArguments command) capabilities (arguments ++ line ∷ []) ≡ with_argument format (state_at format (InArguments command) capabilities arguments) line
argument_adds format LsRefs capabilities arguments line =
    same_state refl refl (length_push arguments line) (ap Ls (ls_refs_asked-push capabilities arguments line (ls_argument line) refl))
argument_adds format Fetch capabilities arguments line =
    same_state refl refl (length_push arguments line) (ap Fetches (fetch_asked-push format capabilities arguments line (fetch_argument line) refl))

-- ---- a packet

-- the state after the packet, with its section and its text
state_more : Format → RequestPlace → List (List ℕ) → List (List ℕ) → Packet → State
state_more format place capabilities arguments packet =
    state_at format (next_place place packet) (capabilities ++ capability_there place packet) (arguments ++ argument_there place packet)

no_text : (format : Format) (place : RequestPlace) (capabilities arguments : List (List ℕ)) → state_at format place (capabilities ++ []) (arguments ++ []) ≡ state_at format place capabilities arguments
no_text format place capabilities arguments =
    ap (λ (xs : List (List ℕ)). state_at format place xs (arguments ++ [])) (append-nil capabilities)
    ∙ ap (λ (xs : List (List ℕ)). state_at format place capabilities xs) (append-nil arguments)

text_adds : (limits : Limits) (format : Format) (place : RequestPlace)
    (capabilities arguments : List (List ℕ)) (payload : List ℕ)
    → (place ≡ First → capabilities ≡ []) → (place ≡ First → arguments ≡ [])
    → IsAccepted (judge_text limits format place (state_at format place capabilities arguments) (text payload))
    → state_more format place capabilities arguments (Data payload) ≡ with_text format place (state_at format place capabilities arguments) (text payload)
unfolding state_more
text_adds limits format First capabilities arguments payload no_capability no_argument h =
    subst (λ (xs : List (List ℕ)). state_at format (place_of_command (command_form (text payload))) (xs ++ []) (arguments ++ []) ≡ with_command format (state_at format First xs arguments) (command_form (text payload))) (sym (no_capability refl))
    (subst (λ (xs : List (List ℕ)). state_at format (place_of_command (command_form (text payload))) [] (xs ++ []) ≡ with_command format (state_at format First [] xs) (command_form (text payload))) (sym (no_argument refl))
    (command_adds format (command_form (text payload))))
text_adds limits format (InCapabilities command) capabilities arguments payload no_capability no_argument h =
    ap (λ (xs : List (List ℕ)). state_at format (InCapabilities command) (capabilities ++ text payload ∷ []) xs) (append-nil arguments)
    ∙ capability_adds format command capabilities arguments (text payload) (capability_form (text payload)) refl h
text_adds limits format (InArguments command) capabilities arguments payload no_capability no_argument h =
    ap (λ (xs : List (List ℕ)). state_at format (InArguments command) xs (arguments ++ text payload ∷ [])) (append-nil capabilities)
    ∙ argument_adds format command capabilities arguments (text payload)

packet_adds : (limits : Limits) (format : Format) (place : RequestPlace)
    (capabilities arguments : List (List ℕ)) (packet : Packet)
    → (place ≡ First → capabilities ≡ []) → (place ≡ First → arguments ≡ [])
    → IsAccepted (judge_at limits format (state_at format place capabilities arguments) packet)
    → state_more format place capabilities arguments packet ≡ with_packet format (state_at format place capabilities arguments) packet
unfolding state_more judge_at with_packet
packet_adds limits format place capabilities arguments (Data payload) no_capability no_argument h =
    text_adds limits format place capabilities arguments payload no_capability no_argument (accepted_unless (peer_error payload) _ h)
packet_adds limits format (InCapabilities command) capabilities arguments Flush no_capability no_argument h = no_text format (InCapabilities command) capabilities arguments
packet_adds limits format (InCapabilities command) capabilities arguments Delim no_capability no_argument h = no_text format (InArguments command) capabilities arguments
packet_adds limits format place capabilities arguments ResponseEnd no_capability no_argument h = absurd h
packet_adds limits format place capabilities arguments packet no_capability no_argument h = no_text format place capabilities arguments

state_of-more : (format : Format) (front : List Packet) (packet : Packet)
    → state_of format (front ++ packet ∷ []) ≡ state_more format (place_of front) (capability_texts front) (argument_texts front) packet
unfolding state_more
state_of-more format front packet =
    ap (λ (place : RequestPlace). state_at format place (capability_texts (front ++ packet ∷ [])) (argument_texts (front ++ packet ∷ []))) (place_of-push front packet)
    ∙ ap (λ (xs : List (List ℕ)). state_at format (next_place (place_of front) packet) xs (argument_texts (front ++ packet ∷ []))) (capability_texts-push front packet)
    ∙ ap (λ (xs : List (List ℕ)). state_at format (next_place (place_of front) packet) (capability_texts front ++ capability_there (place_of front) packet) xs) (argument_texts-push front packet)

-- an accepted packet changes the state as `with_packet` states
pub state_of-push : (limits : Limits) (format : Format) (front : List Packet) (packet : Packet)
    → IsAccepted (judge limits format front packet)
    → state_of format (front ++ packet ∷ []) ≡ with_packet format (state_of format front) packet
state_of-push limits format front packet h =
    state_of-more format front packet
    ∙ packet_adds limits format (place_of front) (capability_texts front) (argument_texts front) packet (capability_texts-first front) (argument_texts-first front) h

pub state_of-open : (limits : Limits) (format : Format) (front : List Packet) (packet : Packet)
    → judge limits format front packet ≡ Open
    → state_of format (front ++ packet ∷ []) ≡ with_packet format (state_of format front) packet
state_of-open limits format front packet goes =
    state_of-push limits format front packet (subst IsAccepted (sym goes) tt)

pub state_of-whole : (limits : Limits) (format : Format) (front : List Packet) (packet : Packet)
    → judge limits format front packet ≡ Whole
    → state_of format (front ++ packet ∷ []) ≡ with_packet format (state_of format front) packet
state_of-whole limits format front packet ends =
    state_of-push limits format front packet (subst IsAccepted (sym ends) tt)
