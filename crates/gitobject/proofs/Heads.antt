-- Reading the lines at the start of commits and tags.
use Rattle.std.proofs.Common.{◌≡◌, ◌≢◌, ℕ, List, [], ◌∷◌, ◌++◌, length, All, codes, Ok, Err, sym, ap, subst, ◌∙◌, append_assoc, arith}
use Rattle.std.proofs.lemmas.List.{append-nil, append_cancel_left}
use Rattle.gname.specs.Ids.{Id, IsIdTextOf, ReadsId}
use Rattle.gname.specs.Laws.{TextsHaveOneReading}
use Rattle.gname.specs.declared.formats.Format.TheVariants.{Sha1}
use Rattle.gname.specs.declared.ids.OidFault.{OidFault}
use Rattle.gitobject.specs.Lines.{BeginsWithId, BeginsWithName, BeginsWithType}
use Rattle.gitobject.specs.Links.{GoesOn, HasParents}
use Rattle.gitobject.specs.Types.{type_name}
use Rattle.gitobject.specs.declared.types.ObjectType.{ObjectType}
use Rattle.gitobject.proofs.Cutting.{cut_once, same_fronts}
use Rattle.gitobject.proofs.Words.{word_clean, word_once}

-- ---- the line of an id

module _ (word text after digits end : List ℕ) (begins : text ≡ word ++ after) (long : length digits ≡ 40) (parts : after ≡ digits ++ end) where
  line_parts : (id : Id) (rest : List ℕ) (b : BeginsWithId word text id rest) → (digits ≡ b.digits) × (end ≡ 10 ∷ rest)
  line_parts id rest b =
      let tails = append_cancel_left word after (b.digits ++ 10 ∷ rest) (sym begins ∙ b.parts) in
      same_fronts digits b.digits end (10 ∷ rest) (long ∙ sym b.spells.long) (sym parts ∙ tails)

  pub no_newline : ((rest : List ℕ) → ¬ (end ≡ 10 ∷ rest)) → (id : Id) (rest : List ℕ) → ¬ (BeginsWithId word text id rest)
  no_newline none id rest b = none rest (line_parts id rest b).1

  pub no_id : (fault : OidFault) → TextsHaveOneReading → ReadsId Sha1 digits (Err fault) → (id : Id) (rest : List ℕ) → ¬ (BeginsWithId word text id rest)
  no_id fault law refused id rest b =
      let P : List ℕ → Type 0 = λ d. IsIdTextOf Sha1 d id in
      let spells = subst P (sym (line_parts id rest b).0) b.spells in
      let reads = (law Sha1 digits).0 id spells in
      let same = (law Sha1 digits).1 (Err fault) (Ok id) refused reads in
      cc

pub begins_once : (word text : List ℕ) (a b : Id) (r q : List ℕ) → BeginsWithId word text a r → BeginsWithId word text b q → (a ≡ b) × (r ≡ q)
begins_once word text a b r q one two =
    let after = append_cancel_left word (one.digits ++ 10 ∷ r) (two.digits ++ 10 ∷ q) (sym one.parts ∙ two.parts) in
    let parts = same_fronts one.digits two.digits (10 ∷ r) (10 ∷ q) (one.spells.long ∙ sym two.spells.long) after in
    let digits = parts.0 in let lines = parts.1 in
    let left = one.spells.spells in let right = two.spells.spells in
    let ids : a ≡ b = cc in
    let rests : r ≡ q = cc in
    (ids, rests)

-- ---- the line of a type

pub type_once : (text : List ℕ) (kind other : ObjectType) (r q : List ℕ) → BeginsWithType text kind r → BeginsWithType text other q → (kind ≡ other) × (r ≡ q)
type_once text kind other r q one two =
    let after = append_cancel_left (codes "type ") (type_name kind ++ 10 ∷ r) (type_name other ++ 10 ∷ q) (sym one ∙ two) in
    let parts = cut_once 10 (type_name kind) (type_name other) r q (word_clean 10 (omega arith) kind) (word_clean 10 (omega arith) other) after in
    (word_once kind other parts.0, parts.1)

module _ (text after : List ℕ) (begins : text ≡ codes "type " ++ after) where
  type_tail : (kind : ObjectType) (rest : List ℕ) → BeginsWithType text kind rest → after ≡ type_name kind ++ 10 ∷ rest
  type_tail kind rest b = append_cancel_left (codes "type ") after (type_name kind ++ 10 ∷ rest) (sym begins ∙ b)

  pub no_word : (word left : List ℕ) → All (λ b. b ≢ 10) word → after ≡ word ++ 10 ∷ left → ((kind : ObjectType) → ¬ (word ≡ type_name kind)) → (kind : ObjectType) (rest : List ℕ) → ¬ (BeginsWithType text kind rest)
  no_word word left clean parts none kind rest b =
      none kind (cut_once 10 word (type_name kind) left rest clean (word_clean 10 (omega arith) kind) (sym parts ∙ type_tail kind rest b)).0

-- ---- the line of a name

pub no_name : (text after : List ℕ) → text ≡ codes "tag " ++ after → ((front rest : List ℕ) → ¬ (after ≡ front ++ 10 ∷ rest)) → ¬ (BeginsWithName text)
no_name text after begins none b =
    none b.0 b.1 (append_cancel_left (codes "tag ") after (b.0 ++ 10 ∷ b.1) (sym begins ∙ b.2))

pub has_name : (text after name rest : List ℕ) → text ≡ codes "tag " ++ after → after ≡ name ++ 10 ∷ rest → BeginsWithName text
has_name text after name rest begins parts = (name, rest, begins ∙ ap (λ l. codes "tag " ++ l) parts)

-- ---- the lines of parents

module _ (text rest : List ℕ) (done : List Id) where
  -- if no parent line follows, the parents `done` that were read so far are all parents of the text
  pub parents_end : ((ids : List Id) → HasParents rest ids → HasParents text (done ++ ids)) → GoesOn rest → HasParents text done
  parents_end goes on = let P : List Id → Type 0 = λ ids. HasParents text ids in subst P (append-nil done) (goes [] on)

  pub parents_more : ((ids : List Id) → HasParents rest ids → HasParents text (done ++ ids)) → (id : Id) (after : List ℕ) → BeginsWithId (codes "parent ") rest id after
      → (ids : List Id) → HasParents after ids → HasParents text ((done ++ id ∷ []) ++ ids)
  parents_more goes id after line ids has =
      let P : List Id → Type 0 = λ all. HasParents text all in subst P (sym (append_assoc done (id ∷ []) ids)) (goes (id ∷ ids) (after, line, has))

-- the text after the first parent line has the remaining parents
pub parents_after : (rest after : List ℕ) (id : Id) → BeginsWithId (codes "parent ") rest id after → (ids : List Id) → HasParents rest ids → (more : List Id) × HasParents after more
parents_after rest after id line [] on = absurd (on.other (line.digits ++ 10 ∷ after) line.parts)
parents_after rest after id line (other ∷ ids) has =
    let same = begins_once (codes "parent ") rest id other after has.0 line has.1 in
    let P : List ℕ → Type 0 = λ l. HasParents l ids in
    (ids, subst P (sym same.1) has.2)

pub no_parents : (rest : List ℕ) → ¬ (GoesOn rest) → ((id : Id) (after : List ℕ) → ¬ (BeginsWithId (codes "parent ") rest id after)) → (ids : List Id) → ¬ (HasParents rest ids)
no_parents rest ends none [] on = ends on
no_parents rest ends none (id ∷ ids) has = none id has.0 has.1

-- a list that is extended by the parents `done` and then by `id`
pub pushed : (old now new done : List Id) (id : Id) → now ≡ old ++ done → new ≡ now ++ id ∷ [] → new ≡ old ++ (done ++ id ∷ [])
pushed old now new done id is push = push ∙ ap (λ l. l ++ id ∷ []) is ∙ append_assoc old done (id ∷ [])
