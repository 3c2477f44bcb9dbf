-- Facts about the texts of a request's packets, and about the kinds of the texts.
use Rattle.std.proofs.Common.{◌≡◌, ℕ, ◌+◌, ◌&&◌, Bool, true, false, cond, List, [], ◌∷◌, ◌++◌, take, drop, codes, ◌⊎◌, inl, inr, Option, Some, None, refl, sym, ap, subst, ◌∙◌, suc, zero, arith}
use Rattle.std.proofs.lemmas.Grind.{common_steps}
use Rattle.std.proofs.lemmas.Slice.Eq.{bytes_eq-Decides}
use Rattle.gpkt.specs.Packets.{text}
use Rattle.gname.specs.declared.formats.Format.{Format}
use Rattle.ggrammar.specs.Capabilities.{Capability, capability_of, capability_split, is_key, is_value}
use Rattle.ggrammar.specs.PeerErrors.{after_word, peer_error}
use Rattle.ggrammar.proofs.TextLemmas.{follows_word}
use Rattle.grequest.specs.declared.command.Command.{Command}
use Rattle.grequest.specs.declared.command.Command.TheVariants.{LsRefs, Fetch}
use Rattle.grequest.specs.declared.command.CommandForm.TheVariants.{Known, Unknown as UnknownCommand, Bad as BadCommand}
use Rattle.grequest.specs.Arguments.{is_word, command_name, command_of_key, command_after, command_form, CapabilityForm, UnknownCapability, agent_with, format_with, known_capability, capability_with, capability_form, ls_argument, fetch_argument}
use Rattle.grequest.specs.Manual.{IsCapability, IsArgument}

-- ---- words

pub word_is : (word line : List ℕ) → is_word word line ≡ true → line ≡ word
word_is word line h = (bytes_eq-Decides line word).0 h

pub is_word-same : (word line : List ℕ) → line ≡ word → is_word word line ≡ true
is_word-same word line e = (bytes_eq-Decides line word).1 e

-- ---- texts

-- a line feed at the end is not part of the text
pub text_of_line : (words : List ℕ) → text (words ++ 10 ∷ []) ≡ words
text_of_line words = grind (arith, common_steps)

pub text_or_line : (payload : List ℕ) → (payload ≡ text payload) ⊎ (payload ≡ text payload ++ 10 ∷ [])
text_or_line payload = grind (arith, common_steps)

-- ---- the peer's errors

-- the first byte of `ERR `
abbrev pub first_of_error : ℕ
first_of_error = 69

error_front : (payload words more : List ℕ) → payload ≡ words ++ 10 ∷ [] → payload ≡ first_of_error ∷ more → (rest : List ℕ) × (words ≡ first_of_error ∷ rest)
error_front payload [] more e at = absurd (let no : 10 ∷ [] ≡ first_of_error ∷ more = sym e ∙ at in let same : 10 ≡ first_of_error = cc in omega arith)
error_front payload (x ∷ words) more e at = (words, (let no : x ∷ (words ++ 10 ∷ []) ≡ first_of_error ∷ more = sym e ∙ at in let same : x ≡ first_of_error = cc in cc))

-- the text of a payload that reports an error begins with the first byte of `ERR `
error_text : (payload said : List ℕ) → peer_error payload ≡ Some said → (rest : List ℕ) × (text payload ≡ first_of_error ∷ rest)
error_text payload said e =
    let more = drop 1 (codes "ERR ") ++ said in
    let at : payload ≡ first_of_error ∷ more = follows_word (codes "ERR ") payload said e in
    elim (text_or_line payload) [ inl h ↦ (more, sym h ∙ at) | inr h ↦ error_front payload (text payload) more h at ]

no_error_by : (payload : List ℕ) (said : Option (List ℕ)) → peer_error payload ≡ said → ((rest : List ℕ) → text payload ≡ first_of_error ∷ rest → ⊥) → said ≡ None
no_error_by payload None e other = refl
no_error_by payload (Some said) e other = let h = error_text payload said e in absurd (other h.0 h.1)

-- a payload whose text does not begin with this byte reports no error
pub no_error : (payload : List ℕ) → ((rest : List ℕ) → text payload ≡ first_of_error ∷ rest → ⊥) → peer_error payload ≡ None
no_error payload other = no_error_by payload (peer_error payload) refl other

-- ---- the command

after_command : (key : Option (List ℕ)) (line : List ℕ) (command : Command) → after_word (codes "command=") line ≡ key → command_after key ≡ Known command
    → (word : List ℕ) × (line ≡ codes "command=" ++ word) × (command_of_key word ≡ Known command)
after_command None line command e h = cc
after_command (Some word) line command e h = (word, follows_word (codes "command=") line word e, h)

known_by : (ls fetch key : Bool) (command : Command) → cond ls (Known LsRefs) (cond fetch (Known Fetch) (cond key UnknownCommand BadCommand)) ≡ Known command
    → ((ls ≡ true) × (command ≡ LsRefs)) ⊎ ((fetch ≡ true) × (command ≡ Fetch))
known_by true fetch key command e = inl (refl, cc)
known_by false true key command e = inr (refl, cc)
known_by false false true command e = cc
known_by false false false command e = cc

key_is : (word : List ℕ) (command : Command) → command_of_key word ≡ Known command → word ≡ command_name command
key_is word command e =
    elim (known_by (is_word (command_name LsRefs) word) (is_word (command_name Fetch) word) (is_key word) command e) [
      | inl h ↦ word_is (command_name LsRefs) word h.0 ∙ ap command_name (sym h.1)
      | inr h ↦ word_is (command_name Fetch) word h.0 ∙ ap command_name (sym h.1)
    ]

pub command_line : (line : List ℕ) (command : Command) → command_form line ≡ Known command → line ≡ codes "command=" ++ command_name command
unfolding command_form
command_line line command e =
    let h = after_command (after_word (codes "command=") line) line command refl e in
    h.1 ∙ ap (λ (word : List ℕ). codes "command=" ++ word) (key_is h.0 command h.2)

named_form : (command : Command) → command_form (codes "command=" ++ command_name command) ≡ Known command
unfolding command_form after_word
named_form LsRefs = refl
named_form Fetch = refl

pub command_form-line : (line : List ℕ) (command : Command) → line ≡ codes "command=" ++ command_name command → command_form line ≡ Known command
command_form-line line command e = ap command_form e ∙ named_form command

-- the text of a command does not begin with the first byte of `ERR `
pub command_no_error : (line : List ℕ) (command : Command) → line ≡ codes "command=" ++ command_name command → (rest : List ℕ) → line ≡ first_of_error ∷ rest → ⊥
command_no_error line LsRefs e rest at = let same : 99 ≡ first_of_error = (let no : codes "command=ls-refs" ≡ first_of_error ∷ rest = sym e ∙ at in cc) in omega arith
command_no_error line Fetch e rest at = let same : 99 ≡ first_of_error = (let no : codes "command=fetch" ≡ first_of_error ∷ rest = sym e ∙ at in cc) in omega arith

-- ---- capabilities

one_key : (format : Format) (agent object : Bool) (a o : CapabilityForm) → IsCapability format (cond agent a (cond object o UnknownCapability)) → (agent ≡ true) ⊎ (object ≡ true)
one_key format true object a o h = inl refl
one_key format false true a o h = inr refl
one_key format false false a o h = absurd h

-- the key of a capability does not begin with the first byte of `ERR `
key_no_error : (format : Format) (capability : Capability) (rest : List ℕ) → capability.key ≡ first_of_error ∷ rest → IsCapability format (known_capability capability) → ⊥
key_no_error format capability rest at h =
    elim (one_key format (is_word (codes "agent") capability.key) (is_word (codes "object-format") capability.key) (agent_with capability.value) (format_with capability.value) h) [
      | inl agent ↦ (let no : first_of_error ∷ rest ≡ codes "agent" = sym at ∙ word_is (codes "agent") capability.key agent in let same : first_of_error ≡ 97 = cc in omega arith)
      | inr object ↦ (let no : first_of_error ∷ rest ≡ codes "object-format" = sym at ∙ word_is (codes "object-format") capability.key object in let same : first_of_error ≡ 111 = cc in omega arith)
    ]

capability_if : (format : Format) (b : Bool) (capability : Capability) → IsCapability format (capability_with (cond b (Some capability) None)) → IsCapability format (known_capability capability)
capability_if format true capability h = h
capability_if format false capability h = absurd h

split_no_error : (format : Format) (rest : List ℕ) (at : Option ℕ) → IsCapability format (capability_with (capability_split (first_of_error ∷ rest) at)) → ⊥
split_no_error format rest None h =
    key_no_error format (record { key = first_of_error ∷ rest; value = None }) rest refl (capability_if format (is_key (first_of_error ∷ rest)) _ h)
split_no_error format rest (Some zero) h = capability_if format (is_key [] && is_value rest) (record { key = []; value = Some rest }) h
split_no_error format rest (Some (suc at)) h =
    let value = drop (suc at + 1) (first_of_error ∷ rest) in
    key_no_error format (record { key = first_of_error ∷ take at rest; value = Some value }) (take at rest) refl
    (capability_if format (is_key (first_of_error ∷ take at rest) && is_value value) (record { key = first_of_error ∷ take at rest; value = Some value }) h)

pub capability_no_error : (format : Format) (line rest : List ℕ) → IsCapability format (capability_form line) → line ≡ first_of_error ∷ rest → ⊥
unfolding capability_form capability_of
capability_no_error format line rest h at = split_no_error format rest _ (subst (λ (xs : List ℕ). IsCapability format (capability_form xs)) at h)

-- ---- arguments

pub argument_no_error : (format : Format) (command : Command) (line rest : List ℕ) → IsArgument format command line → line ≡ first_of_error ∷ rest → ⊥
unfolding ls_argument fetch_argument after_word
argument_no_error format LsRefs line rest h at = subst (IsArgument format LsRefs) at h
argument_no_error format Fetch line rest h at = subst (IsArgument format Fetch) at h
