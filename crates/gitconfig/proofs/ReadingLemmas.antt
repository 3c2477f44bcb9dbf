-- Reading a configuration part by part.
use Rattle.std.proofs.Common.{◌≡◌, ℕ, ◌+◌, ◌<◌, ◌≤◌, true, Option, List, [], ◌∷◌, ◌++◌, All, length, map, refl, ap, sym, subst, ◌∙◌, append_assoc, append-nil, arith}
use Rattle.std.specs.Prelude.{IfOk, Result, Ok, Err}
use Rattle.std.specs.Str.{str_to_ascii_lowercase}
use Rattle.gitconfig.specs.Bytes.{is_blank, is_name_byte}
use Rattle.gitconfig.specs.Configs.{BeginsWithItem, BeginsWithLetter, BeginsWithQuoted, BeginsWithVariable, HasItems, HasQuoted, HasValue, Item, Nothing, Begins, Sets, Setting, setting_of, settings_of}
use Rattle.gitconfig.specs.declared.setting.Setting as settings
use Rattle.std.proofs.lemmas.List.{map-append}
use Rattle.gitconfig.specs.steps.Readings.{section_after}

-- a property of the list of `done`, `x` and `more` still holds if `x` is counted as the last part of `done`
one_more : {X : Type 0} (P : List X → Type 0) (done more : List X) (x : X) → P (done ++ x ∷ more) → P ((done ++ x ∷ []) ++ more)
one_more P done more x h = subst P (sym (append_assoc done (x ∷ []) more)) h

pub quoted_more : (text rest next : List ℕ) (done : List ℕ) (b : ℕ) → ((more after : List ℕ) → HasQuoted rest more after → HasQuoted text (done ++ more) after) → BeginsWithQuoted rest b next → (more after : List ℕ) → HasQuoted next more after → HasQuoted text ((done ++ b ∷ []) ++ more) after
quoted_more text rest next done b so_far begins more after has =
    one_more (λ l. HasQuoted text l after) done more b (so_far (b ∷ more) after (next, begins, has))

pub quoted_end : (text rest after : List ℕ) (done : List ℕ) → ((more after : List ℕ) → HasQuoted rest more after → HasQuoted text (done ++ more) after) → rest ≡ 34 ∷ after → HasQuoted text done after
quoted_end text rest after done so_far is = subst (λ l. HasQuoted text l after) (append-nil done) (so_far [] after is)

-- ---- items

pub items_more : (text rest next : List ℕ) (done : List Item) (item : Item) → ((more : List Item) → HasItems rest more → HasItems text (done ++ more)) → BeginsWithItem rest item next → (more : List Item) → HasItems next more → HasItems text ((done ++ item ∷ []) ++ more)
items_more text rest next done item so_far begins more has =
    one_more (λ l. HasItems text l) done more item (so_far (item ∷ more) (next, begins, has))

pub items_end : (text rest : List ℕ) (done : List Item) → ((more : List Item) → HasItems rest more → HasItems text (done ++ more)) → rest ≡ [] → HasItems text done
items_end text rest done so_far is = subst (λ l. HasItems text l) (append-nil done) (so_far [] is)

one_item : (section : List ℕ) (item : Item) (more : List Item) → settings_of section (item ∷ more) ≡ settings_of section (item ∷ []) ++ settings_of (section_after section item) more
one_item section Nothing more = refl
one_item section (Begins next) more = refl
one_item section (Sets name value) more = refl

pub settings_more : (done : List Item) (item : Item) (old_section new_section : List ℕ) (old new : List Setting) → ((more : List Item) → settings_of [] (done ++ more) ≡ old ++ settings_of old_section more) → new ≡ old ++ settings_of old_section (item ∷ []) → new_section ≡ section_after old_section item → (more : List Item) → settings_of [] ((done ++ item ∷ []) ++ more) ≡ new ++ settings_of new_section more
settings_more done item old_section new_section old new so_far is section more =
    ap (settings_of []) (append_assoc done (item ∷ []) more) ∙ so_far (item ∷ more)
    ∙ ap (λ l. old ++ l) (one_item old_section item more)
    ∙ sym (append_assoc old (settings_of old_section (item ∷ [])) (settings_of (section_after old_section item) more))
    ∙ ap (λ l. l ++ settings_of (section_after old_section item) more) (sym is)
    ∙ ap (λ s. new ++ settings_of s more) (sym section)

pub settings_end : (done : List Item) (section : List ℕ) (sets : List Setting) → ((more : List Item) → settings_of [] (done ++ more) ≡ sets ++ settings_of section more) → sets ≡ settings_of [] done
settings_end done section sets so_far = sym (ap (settings_of []) (sym (append-nil done)) ∙ so_far [] ∙ append-nil sets)

-- ---- variables

pub variable_read : (text spelt after_name blanks after rest : List ℕ) (value : Option (List ℕ)) → text ≡ spelt ++ after_name → after_name ≡ blanks ++ after → BeginsWithLetter spelt → All (λ b. is_name_byte b ≡ true) spelt → All (λ b. is_blank b ≡ true) blanks → HasValue after value rest → BeginsWithVariable text (str_to_ascii_lowercase spelt) value rest
variable_read text spelt after_name blanks after rest value one two letter each blank has = record {
  spelt = spelt;
  blanks = blanks;
  after = after;
  parts = one ∙ ap (λ l. spelt ++ l) two;
  letter = letter;
  each = each;
  named = refl;
  blank = blank;
  has = has;
}

pub pushed_setting : {A : Type 0} (old new : List (settings.Setting A)) (one : settings.Setting A) (set : Setting) → new ≡ old ++ one ∷ [] → setting_of one ≡ set → map setting_of new ≡ map setting_of old ++ set ∷ []
pushed_setting old new one set is same = ap (map setting_of) is ∙ map-append setting_of old (one ∷ []) ∙ ap (λ s. map setting_of old ++ s ∷ []) same

-- ---- results

pub if_ok : {T E : Type 0} {P Q : T → Type 0} (result : Result T E) → ((x : T) → P x → Q x) → IfOk result P → IfOk result Q
if_ok (Ok x) leads has = leads x has
if_ok (Err fault) leads has = has
