-- Reading the file packed-refs.
use Rattle.std.proofs.Common.{◌≡◌, ◌≢◌, ℕ, ◌<◌, ◌≤◌, inl, inr, List, [], ◌∷◌, ◌++◌, length, All, codes, filter, Option, None, Some, refl, sym, ap, subst, ◌∙◌, append_assoc, length-append, arith}
use Rattle.std.proofs.lemmas.List.{append-nil, append_cancel_left}
use Rattle.std.proofs.lemmas.List.Elements.{filter-append}
use Rattle.gname.specs.Ids.{Id}
use Rattle.gitrefs.specs.Ids.{BeginsWithId}
use Rattle.gitrefs.specs.PackedRefs.{BeginsWithHeader, BeginsWithLine, BeginsWithPeeled, BeginsWithRef, HasPackedLines, IsPackedRefsFile, PackedLine, names_ref}
use Rattle.gitrefs.proofs.Cutting.{cut_once, id_once}

-- ---- the header

pub plain : (text : List ℕ) → ((more : List ℕ) → ¬ (text ≡ codes "#" ++ more)) → BeginsWithHeader text text
plain text none = inr (refl, none)

pub header_cut : (text after words rest : List ℕ) → text ≡ codes "# pack-refs with:" ++ after → All (λ b. b ≢ 10) words → after ≡ words ++ 10 ∷ rest → BeginsWithHeader text rest
header_cut text after words rest begins clean parts =
    inl (words, record { clean = clean; parts = begins ∙ ap (λ l. codes "# pack-refs with:" ++ l) parts })

pub no_words : (text comment : List ℕ) → text ≡ codes "#" ++ comment → ((more : List ℕ) → ¬ (text ≡ codes "# pack-refs with:" ++ more)) → (rest : List ℕ) → ¬ (BeginsWithHeader text rest)
no_words text comment begins none rest (inl header) = none (header.0 ++ 10 ∷ rest) header.1.parts
no_words text comment begins none rest (inr other) = other.1 comment begins

pub no_line_end : (text comment after : List ℕ) → text ≡ codes "#" ++ comment → text ≡ codes "# pack-refs with:" ++ after → ((front rest : List ℕ) → ¬ (after ≡ front ++ 10 ∷ rest)) → (rest : List ℕ) → ¬ (BeginsWithHeader text rest)
no_line_end text comment after begins is none rest (inl header) =
    none header.0 rest (append_cancel_left (codes "# pack-refs with:") after (header.0 ++ 10 ∷ rest) (sym is ∙ header.1.parts))
no_line_end text comment after begins is none rest (inr other) = other.1 comment begins

-- a text begins with at most one header
header_once : (text a b : List ℕ) → BeginsWithHeader text a → BeginsWithHeader text b → a ≡ b
header_once text a b (inl one) (inl two) =
    let tails = append_cancel_left (codes "# pack-refs with:") (one.0 ++ 10 ∷ a) (two.0 ++ 10 ∷ b) (sym one.1.parts ∙ two.1.parts) in
    (cut_once 10 one.0 two.0 a b one.1.clean two.1.clean tails).1
header_once text a b (inl one) (inr two) = absurd (two.1 (codes " pack-refs with:" ++ (one.0 ++ 10 ∷ a)) one.1.parts)
header_once text a b (inr one) (inl two) = absurd (one.1 (codes " pack-refs with:" ++ (two.0 ++ 10 ∷ b)) two.1.parts)
header_once text a b (inr one) (inr two) = sym one.0 ∙ two.0

-- the lines of a file, after its header
pub lines_of : (text rest : List ℕ) → BeginsWithHeader text rest → IsPackedRefsFile text → (lines : List PackedLine) × HasPackedLines rest lines
lines_of text rest header file =
    let refs = file.1 in
    let same = header_once text refs.0 rest refs.2 header in
    (refs.1, subst (λ l. HasPackedLines l refs.1) same refs.3)

pub no_header : (text : List ℕ) → ((rest : List ℕ) → ¬ (BeginsWithHeader text rest)) → ¬ (IsPackedRefsFile text)
no_header text none file = none file.1.0 file.1.2

-- ---- the line of a ref

-- the parts of a line: the id, the space, the name, and the text after the line
module _ (text after_id : List ℕ) (id : Id) (begins : BeginsWithId text id after_id) where
  line_parts : (line : PackedLine) (next : List ℕ) (b : BeginsWithRef text line next) → (id ≡ line.id) × (after_id ≡ 32 ∷ (line.name ++ 10 ∷ next))
  line_parts line next b =
      let same = id_once text id line.id after_id b.after_id begins b.id in
      (same.0, same.1 ∙ b.parts)

  pub no_space : ((rest : List ℕ) → ¬ (after_id ≡ codes " " ++ rest)) → (line : PackedLine) (rest : List ℕ) → ¬ (BeginsWithLine text line rest)
  no_space none line rest b = none (line.name ++ 10 ∷ b.0) (line_parts line b.0 b.1).1

  module _ (after : List ℕ) (space : after_id ≡ codes " " ++ after) where
    name_parts : (line : PackedLine) (next : List ℕ) → BeginsWithRef text line next → after ≡ line.name ++ 10 ∷ next
    name_parts line next b =
        append_cancel_left (codes " ") after (line.name ++ 10 ∷ next) (sym space ∙ (line_parts line next b).1)

    pub no_name : ((front rest : List ℕ) → ¬ (after ≡ front ++ 10 ∷ rest)) → (line : PackedLine) (rest : List ℕ) → ¬ (BeginsWithLine text line rest)
    no_name none line rest b = none line.name b.0 (name_parts line b.0 b.1)

    module _ (name next : List ℕ) (clean : All (λ b. b ≢ 10) name) (cut : after ≡ name ++ 10 ∷ next) where
      next_is : (line : PackedLine) (rest : List ℕ) (b : BeginsWithLine text line rest) → (name ≡ line.name) × (next ≡ b.0)
      next_is line rest b = cut_once 10 name line.name next b.0 clean b.1.clean (sym cut ∙ name_parts line b.0 b.1)

      pub no_peeled : ((peeled : Option Id) (rest : List ℕ) → ¬ (BeginsWithPeeled next peeled rest)) → (line : PackedLine) (rest : List ℕ) → ¬ (BeginsWithLine text line rest)
      no_peeled none line rest b = none line.peeled rest (subst (λ l. BeginsWithPeeled l line.peeled rest) (sym (next_is line rest b).1) b.2)

      pub found_line : (peeled : Option Id) (rest : List ℕ) → BeginsWithPeeled next peeled rest → BeginsWithLine text (record { name = name; id = id; peeled = peeled }) rest
      found_line peeled rest follows = (
        next,
        record { after_id = after_id; id = begins; clean = clean; parts = space ∙ ap (λ l. 32 ∷ l) cut },
        follows,
      )

      -- the text after the line is shorter than the whole text
      pub line_shorter : (rest : List ℕ) → length rest ≤ length next → length rest < length text
      line_shorter rest low =
          let whole = ap length begins.parts ∙ length-append begins.digits after_id in
          let end = ap length space in
          let names = ap length cut ∙ length-append name (10 ∷ next) in
          omega (arith, whole, end, names, low)

-- ---- the line of a peeled id

pub no_peeled_id : (text line : List ℕ) → text ≡ codes "^" ++ line → ((id : Id) (rest : List ℕ) → ¬ (BeginsWithId line id rest)) → (peeled : Option Id) (rest : List ℕ) → ¬ (BeginsWithPeeled text peeled rest)
no_peeled_id text line begins none None rest b = b.1 line begins
no_peeled_id text line begins none (Some id) rest b =
    let same : b.0 ≡ line = append_cancel_left (codes "^") b.0 line (sym b.1 ∙ begins) in
    none id (10 ∷ rest) (subst (λ l. BeginsWithId l id (10 ∷ rest)) same b.2)

pub no_peeled_end : (text line end : List ℕ) (id : Id) → text ≡ codes "^" ++ line → BeginsWithId line id end → ((rest : List ℕ) → ¬ (end ≡ codes "\n" ++ rest)) → (peeled : Option Id) (rest : List ℕ) → ¬ (BeginsWithPeeled text peeled rest)
no_peeled_end text line end id begins is none None rest b = b.1 line begins
no_peeled_end text line end id begins is none (Some other) rest b =
    let same : b.0 ≡ line = append_cancel_left (codes "^") b.0 line (sym b.1 ∙ begins) in
    let there = subst (λ l. BeginsWithId l other (10 ∷ rest)) same b.2 in
    none rest (id_once line id other end (10 ∷ rest) is there).1

pub peeled_shorter : (text line end rest : List ℕ) (id : Id) → text ≡ codes "^" ++ line → BeginsWithId line id end → end ≡ codes "\n" ++ rest → length rest ≤ length text
peeled_shorter text line end rest id begins is cut =
    let whole = ap length begins in
    let parts = ap length is.parts ∙ length-append is.digits end in
    let tail = ap length cut in
    omega (arith, whole, parts, tail)

-- a text begins with at most one line of a peeled id, and only one rest follows
peeled_once : (text : List ℕ) (a b : Option Id) (r q : List ℕ) → BeginsWithPeeled text a r → BeginsWithPeeled text b q → (a ≡ b) × (r ≡ q)
peeled_once text None None r q one two = (refl, sym one.0 ∙ two.0)
peeled_once text None (Some b) r q one two = absurd (one.1 two.0 two.1)
peeled_once text (Some a) None r q one two = absurd (two.1 one.0 one.1)
peeled_once text (Some a) (Some b) r q one two =
    let same : one.0 ≡ two.0 = append_cancel_left (codes "^") one.0 two.0 (sym one.1 ∙ two.1) in
    let ids = id_once two.0 a b (10 ∷ r) (10 ∷ q) (subst (λ l. BeginsWithId l a (10 ∷ r)) same one.2) two.2 in
    let left = ids.0 in let right = ids.1 in
    let rests : r ≡ q = cc in
    (ap Some left, rests)

packed_line : List ℕ → Id → Option Id → PackedLine
packed_line name id peeled = record { name = name; id = id; peeled = peeled }

same_line : (a b : PackedLine) → a.name ≡ b.name → a.id ≡ b.id → a.peeled ≡ b.peeled → a ≡ b
unfolding packed_line
same_line a b n i p =
    let names : a ≡ packed_line b.name a.id a.peeled = ap (λ x. packed_line x a.id a.peeled) n in
    let ids : packed_line b.name a.id a.peeled ≡ packed_line b.name b.id a.peeled = ap (λ x. packed_line b.name x a.peeled) i in
    let peeled : packed_line b.name b.id a.peeled ≡ b = ap (λ x. packed_line b.name b.id x) p in
    names ∙ ids ∙ peeled

pub line_once : (text : List ℕ) (a b : PackedLine) (r q : List ℕ) → BeginsWithLine text a r → BeginsWithLine text b q → (a ≡ b) × (r ≡ q)
line_once text a b r q one two =
    let ids = id_once text a.id b.id one.1.after_id two.1.after_id one.1.id two.1.id in
    let tails : 32 ∷ (a.name ++ 10 ∷ one.0) ≡ 32 ∷ (b.name ++ 10 ∷ two.0) = sym one.1.parts ∙ ids.1 ∙ two.1.parts in
    let names = cut_once 10 a.name b.name one.0 two.0 one.1.clean two.1.clean (append_cancel_left (codes " ") (a.name ++ 10 ∷ one.0) (b.name ++ 10 ∷ two.0) tails) in
    let peeled = peeled_once two.0 a.peeled b.peeled r q (subst (λ l. BeginsWithPeeled l a.peeled r) names.1 one.2) two.2 in
    (same_line a b names.0 ids.0 peeled.0, peeled.1)

-- ---- the lines

-- the lines that were read so far, with one more line
pub lines_more : (text rest after : List ℕ) (done : List PackedLine) (line : PackedLine) → ((more : List PackedLine) → HasPackedLines rest more → HasPackedLines text (done ++ more))
    → BeginsWithLine rest line after → (more : List PackedLine) → HasPackedLines after more → HasPackedLines text ((done ++ line ∷ []) ++ more)
lines_more text rest after done line goes begins more has =
    subst (λ all. HasPackedLines text all) (sym (append_assoc done (line ∷ []) more)) (goes (line ∷ more) (after, begins, has))

pub lines_end : (text rest : List ℕ) (done : List PackedLine) → ((more : List PackedLine) → HasPackedLines rest more → HasPackedLines text (done ++ more)) → rest ≡ [] → HasPackedLines text done
lines_end text rest done goes over = subst (λ all. HasPackedLines text all) (append-nil done) (goes [] over)

never_empty : (text : List ℕ) (line : PackedLine) (rest : List ℕ) → BeginsWithLine text line rest → text ≡ [] → ⊥
never_empty text line rest b none =
    let long = b.1.id.spells.long in
    let whole = sym (ap length none) ∙ ap length b.1.id.parts ∙ length-append b.1.id.digits b.1.after_id in
    omega (arith, long, whole)

pub lines_after : (rest after : List ℕ) (line : PackedLine) → BeginsWithLine rest line after → (lines : List PackedLine) → HasPackedLines rest lines → (more : List PackedLine) × HasPackedLines after more
lines_after rest after line begins [] has = absurd (never_empty rest line after begins has)
lines_after rest after line begins (other ∷ lines) has =
    let same = line_once rest line other after has.0 begins has.1 in
    (lines, subst (λ l. HasPackedLines l lines) (sym same.1) has.2)

pub no_more : (rest : List ℕ) → rest ≢ [] → ((line : PackedLine) (after : List ℕ) → ¬ (BeginsWithLine rest line after)) → (lines : List PackedLine) → ¬ (HasPackedLines rest lines)
no_more rest some none [] has = some has
no_more rest some none (line ∷ lines) has = none line has.0 has.1

pub kept_more : (done : List PackedLine) (line : PackedLine) (old new : List PackedLine) → old ≡ filter names_ref done → new ≡ old ++ filter names_ref (line ∷ []) → new ≡ filter names_ref (done ++ line ∷ [])
kept_more done line old new is push = push ∙ ap (λ l. l ++ filter names_ref (line ∷ [])) is ∙ sym (filter-append names_ref done (line ∷ []))
