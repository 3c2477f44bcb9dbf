-- Reading the entries of trees.
use Rattle.std.proofs.Common.{◌≡◌, ◌≢◌, ◌==◌, eqb-true, true, false, take, drop, ℕ, ◌<◌, List, [], ◌∷◌, ◌++◌, length, All, Option, None, Some, MatchOption, refl, sym, ap, subst, ◌∙◌, append_assoc, length-append, arith}
use Rattle.std.specs.List.{filter_map, cons_option}
use Rattle.std.specs.Option.{option_to_list}
use Rattle.std.specs.Str.Parse.{AllDigits, IsNumeral}
use Rattle.std.specs.Char.{digit_value}
use Rattle.std.proofs.lemmas.Bool.{false≢true}
use Rattle.std.proofs.lemmas.List.{append-nil, take-append-drop}
use Rattle.std.proofs.lemmas.List.Elements.{All-cons, All-head, All-nil, All-push, All-tail, filter_map-append}
use Rattle.gname.specs.Formats.{id_length}
use Rattle.gname.specs.Ids.{Id, IsId, IsIdOf}
use Rattle.gname.specs.declared.formats.Format.{Format}
use Rattle.gname.specs.declared.formats.Format.TheVariants.{Sha1}
use Rattle.gitobject.specs.Trees.{BeginsWithEntry, Entry, IsEntry, IsTree, entry_link, entry_text, tree_text}
use Rattle.gitobject.specs.declared.links.Link.{Link}
use Rattle.gitobject.proofs.Cutting.{cut_once, same_fronts}

-- ---- the bytes of an id

pub id_is_made : (bytes : List ℕ) (r : Option Id) → IsIdOf Sha1 bytes
    → MatchOption r ((format : Format) → length bytes ≢ id_length format) (λ id. (id ≡ bytes) × IsId id) → r ≡ Some bytes
id_is_made bytes None is none = absurd (none Sha1 is.long)
id_is_made bytes (Some id) is made = ap Some made.0

-- ---- the mode of an entry

space_is_none : ¬ (digit_value 32 < 8)
space_is_none h = omega (arith, h)

no_space : (ds : List ℕ) → AllDigits 8 ds → All (λ b. b ≢ 32) ds
no_space [] h = All-nil (λ (b : ℕ). b ≢ 32)
no_space (d ∷ ds) h =
    let P : ℕ → Type 0 = λ c. digit_value c < 8 in
    All-cons (λ b. b ≢ 32) d ds (λ e. space_is_none (subst P e h.0)) (no_space ds h.1)

pub mode_clean : (e : Entry) → IsEntry e → All (λ b. b ≢ 32) e.mode
mode_clean e is = no_space e.mode is.mode.1

-- ---- an entry

is_nil : (l : List ℕ) → (length l == 0) ≡ true → l ≡ []
is_nil [] h = refl
is_nil (x ∷ l) h = let none = eqb-true (length (x ∷ l)) 0 h in absurd (omega (arith, none))

-- the parts of a text that begins with an entry: the mode, a space, the name, NUL, the id, and the rest
pub entry_parts : (e : Entry) (rest : List ℕ) → entry_text e ++ rest ≡ e.mode ++ 32 ∷ (e.name ++ 0 ∷ (e.id ++ rest))
entry_parts e rest = simp append_assoc

module _ (text mode after : List ℕ) (clean : All (λ b. b ≢ 32) mode) (parts : text ≡ mode ++ 32 ∷ after) where
  mode_is : (e : Entry) (rest : List ℕ) → BeginsWithEntry text e rest → (mode ≡ e.mode) × (after ≡ e.name ++ 0 ∷ (e.id ++ rest))
  mode_is e rest b =
      cut_once 32 mode e.mode after (e.name ++ 0 ∷ (e.id ++ rest)) clean (mode_clean e b.is) (sym parts ∙ b.parts ∙ entry_parts e rest)

  pub no_number : ¬ (IsNumeral 8 mode) → (e : Entry) (rest : List ℕ) → ¬ (BeginsWithEntry text e rest)
  no_number none e rest b = none (subst (IsNumeral 8) (sym (mode_is e rest b).0) b.is.mode)

  pub no_nul : ((front rest : List ℕ) → ¬ (after ≡ front ++ 0 ∷ rest)) → (e : Entry) (rest : List ℕ) → ¬ (BeginsWithEntry text e rest)
  no_nul none e rest b = none e.name (e.id ++ rest) (mode_is e rest b).1

  module _ (name left : List ℕ) (whole : All (λ b. b ≢ 0) name) (cut : after ≡ name ++ 0 ∷ left) where
    name_is : (e : Entry) (rest : List ℕ) → BeginsWithEntry text e rest → (name ≡ e.name) × (left ≡ e.id ++ rest)
    name_is e rest b = cut_once 0 name e.name left (e.id ++ rest) whole b.is.name (sym cut ∙ (mode_is e rest b).1)

    pub no_name : (length name == 0) ≡ true → (e : Entry) (rest : List ℕ) → ¬ (BeginsWithEntry text e rest)
    no_name empty e rest b = b.is.named (sym (name_is e rest b).0 ∙ is_nil name empty)

    pub no_bytes : length left < 20 → (e : Entry) (rest : List ℕ) → ¬ (BeginsWithEntry text e rest)
    no_bytes short e rest b =
        let long = ap length (name_is e rest b).1 in
        let sum = length-append e.id rest in
        let twenty = b.is.id.long in
        omega (arith, long, sum, twenty)

    pub found_entry : IsNumeral 8 mode → (length name == 0) ≡ false → (id bytes rest : List ℕ) → IsIdOf Sha1 id → id ≡ bytes → bytes ≡ take 20 left → rest ≡ drop 20 left
        → BeginsWithEntry text (record { mode = mode; name = name; id = id }) rest
    found_entry number some id bytes rest is same front back =
        let halves : left ≡ id ++ rest = sym (take-append-drop 20 left) ∙ ap (λ l. l ++ drop 20 left) (sym (same ∙ front)) ∙ ap (λ l. id ++ l) (sym back) in record {
          is = record { mode = number; named = λ empty. false≢true (sym some ∙ ap (λ l. length l == 0) empty); name = whole; id = is };
          parts =
              parts ∙ ap (λ l. mode ++ 32 ∷ l) cut ∙ ap (λ l. mode ++ 32 ∷ (name ++ 0 ∷ l)) halves
              ∙ sym (entry_parts (record { mode = mode; name = name; id = id }) rest);
        }

-- ---- the entries of a tree

tree_entry : List ℕ → List ℕ → Id → Entry
tree_entry mode name id = record { mode = mode; name = name; id = id }

same_entry : (e f : Entry) → e.mode ≡ f.mode → e.name ≡ f.name → e.id ≡ f.id → e ≡ f
unfolding tree_entry
same_entry e f m n i =
    let modes : e ≡ tree_entry f.mode e.name e.id = ap (λ x. tree_entry x e.name e.id) m in
    let names : tree_entry f.mode e.name e.id ≡ tree_entry f.mode f.name e.id = ap (λ x. tree_entry f.mode x e.id) n in
    let ids : tree_entry f.mode f.name e.id ≡ f = ap (λ x. tree_entry f.mode f.name x) i in
    modes ∙ names ∙ ids

pub entry_once : (e f : Entry) (x y : List ℕ) → IsEntry e → IsEntry f → entry_text e ++ x ≡ entry_text f ++ y → (e ≡ f) × (x ≡ y)
entry_once e f x y one two is =
    let lines = sym (entry_parts e x) ∙ is ∙ entry_parts f y in
    let modes = cut_once 32 e.mode f.mode (e.name ++ 0 ∷ (e.id ++ x)) (f.name ++ 0 ∷ (f.id ++ y)) (mode_clean e one) (mode_clean f two) lines in
    let names = cut_once 0 e.name f.name (e.id ++ x) (f.id ++ y) one.name two.name modes.1 in
    let ids = same_fronts e.id f.id x y (one.id.long ∙ sym two.id.long) names.1 in
    (same_entry e f modes.0 names.0 ids.0, ids.1)

never_empty : (e : Entry) (rest : List ℕ) → entry_text e ++ rest ≡ [] → ⊥
never_empty e rest is = none_there e.mode (e.name ++ 0 ∷ (e.id ++ rest)) (sym (entry_parts e rest) ∙ is)
  where
    none_there : (mode more : List ℕ) → mode ++ 32 ∷ more ≡ [] → ⊥
    none_there [] more h = cc
    none_there (c ∷ mode) more h = cc

pub trees_once : (es fs : List Entry) → All IsEntry es → All IsEntry fs → tree_text es ≡ tree_text fs → es ≡ fs
trees_once [] [] one two is = refl
trees_once [] (f ∷ fs) one two is = absurd (never_empty f (tree_text fs) (sym is))
trees_once (e ∷ es) [] one two is = absurd (never_empty e (tree_text es) is)
trees_once (e ∷ es) (f ∷ fs) one two is =
    let first = entry_once e f (tree_text es) (tree_text fs) (All-head IsEntry e es one) (All-head IsEntry f fs two) is in
    let same = first.0 in
    let rest = trees_once es fs (All-tail IsEntry e es one) (All-tail IsEntry f fs two) first.1 in
    cc

tree_text-push : (done : List Entry) (e : Entry) → tree_text (done ++ e ∷ []) ≡ tree_text done ++ entry_text e
tree_text-push [] e = append-nil (entry_text e)
tree_text-push (d ∷ done) e = ap (λ l. entry_text d ++ l) (tree_text-push done e) ∙ sym (append_assoc (entry_text d) (tree_text done) (entry_text e))

pub tree_more : (body rest after : List ℕ) (done : List Entry) (e : Entry) → body ≡ tree_text done ++ rest → rest ≡ entry_text e ++ after → body ≡ tree_text (done ++ e ∷ []) ++ after
tree_more body rest after done e is parts =
    is ∙ ap (λ l. tree_text done ++ l) parts ∙ sym (append_assoc (tree_text done) (entry_text e) after) ∙ ap (λ l. l ++ after) (sym (tree_text-push done e))

pub entries_more : (done : List Entry) (e : Entry) → All IsEntry done → IsEntry e → All IsEntry (done ++ e ∷ [])
entries_more done e each is = All-push IsEntry done e each is

-- the text that follows the first entries of a tree is a tree
rest_is_tree : (done es : List Entry) (rest : List ℕ) → All IsEntry done → All IsEntry es → tree_text done ++ rest ≡ tree_text es → (more : List Entry) × (rest ≡ tree_text more) × All IsEntry more
rest_is_tree [] es rest one two is = (es, is, two)
rest_is_tree (d ∷ done) [] rest one two is = absurd (never_empty d (tree_text done ++ rest) (sym (append_assoc (entry_text d) (tree_text done) rest) ∙ is))
rest_is_tree (d ∷ done) (e ∷ es) rest one two is =
    let first = entry_once d e (tree_text done ++ rest) (tree_text es) (All-head IsEntry d done one) (All-head IsEntry e es two) (sym (append_assoc (entry_text d) (tree_text done) rest) ∙ is) in
    rest_is_tree done es rest (All-tail IsEntry d done one) (All-tail IsEntry e es two) first.1

begins_first : (rest : List ℕ) (more : List Entry) → rest ≢ [] → ((e : Entry) (after : List ℕ) → ¬ (BeginsWithEntry rest e after)) → rest ≡ tree_text more → All IsEntry more → ⊥
begins_first rest [] some none is each = some is
begins_first rest (e ∷ more) some none is each =
    none e (tree_text more) (record { is = All-head IsEntry e more each; parts = is })

pub no_tree : (body rest : List ℕ) (done : List Entry) → All IsEntry done → body ≡ tree_text done ++ rest → rest ≢ [] → ((e : Entry) (after : List ℕ) → ¬ (BeginsWithEntry rest e after)) → (entries : List Entry) → ¬ (IsTree body entries)
no_tree body rest done each is some none entries tree =
    let left = rest_is_tree done entries rest each tree.each (sym is ∙ tree.is) in
    begins_first rest left.0 some none left.1 left.2

pub links_more : (done : List Entry) (e : Entry) (link : Option Link) (old new : List Link) → old ≡ filter_map entry_link done → link ≡ entry_link e → new ≡ old ++ option_to_list link → new ≡ filter_map entry_link (done ++ e ∷ [])
links_more done e link old new is same pushed =
    pushed ∙ ap (λ l. l ++ option_to_list link) is ∙ ap (λ o. filter_map entry_link done ++ option_to_list o) same ∙ ap (λ l. filter_map entry_link done ++ l) (sym (one_link (entry_link e))) ∙ sym (filter_map-append entry_link done (e ∷ []))
  where
    one_link : (o : Option Link) → cons_option o [] ≡ option_to_list o
    one_link None = refl
    one_link (Some l) = refl
