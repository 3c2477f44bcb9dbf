-- The lines of the file commit-graph-chain.
use Rattle.std.proofs.Common.{◌≡◌, ℕ, zero, suc, ◌*◌, ◌≤◌, List, [], ◌∷◌, ◌++◌, Ok, Err, Result, length, take, drop, get_or, All, refl, sym, ap, subst, ◌∙◌, length-append, arith}
use Rattle.std.specs.List.{AllZip, concat}
use Rattle.std.specs.Simd.{first_chunks}
use Rattle.std.proofs.lemmas.List.{drop_at, drop_more, drop_all, take-append-drop, take_at}
use Rattle.std.proofs.lemmas.List.Elements.{All-cons, All-nil}
use Rattle.gname.specs.Ids.{Id, IsIdTextOf, ReadsId}
use Rattle.gname.specs.Hex.{decode_of}
use Rattle.gname.specs.Laws.{TextsHaveOneReading}
use Rattle.gname.specs.declared.formats.Format.TheVariants.{Sha1}
use Rattle.gname.specs.declared.ids.OidFault.{OidFault}
use Rattle.gitcommitgraph.specs.Chains.{IsChainText, IsLine}

-- ---- one line

line_ends : (line : List ℕ) → length line ≡ 41 → get_or line 40 0 ≡ 10 → line ≡ take 40 line ++ 10 ∷ []
line_ends line long last =
    sym (take-append-drop 40 line)
    ∙ ap (λ l. take 40 line ++ l) (drop_more line 40 0 (omega (arith, long)) ∙ ap (λ l. get_or line 40 0 ∷ l) (drop_all 41 line (omega (arith, long))) ∙ ap (λ b. b ∷ []) last)

pub line_is : (id : Id) (line : List ℕ) → length line ≡ 41 → get_or line 40 0 ≡ 10 → IsIdTextOf Sha1 (take 40 line) id → IsLine id line
line_is id line long last spelt = record { digits = take 40 line; spelt = spelt; parts = line_ends line long last }

pub no_line : TextsHaveOneReading → (fault : OidFault) (line : List ℕ) → ReadsId Sha1 (take 40 line) (Err fault) → (id : Id) → ¬ IsLine id line
no_line law fault line refused id is =
    let digits = ap (take 40) is.parts ∙ take_at is.digits (10 ∷ []) 40 is.spelt.long in
    let spelt = subst (λ t. IsIdTextOf Sha1 t id) (sym digits) is.spelt in
    let readings = law Sha1 (take 40 line) in
    let same : ◌≡◌ {A = Result Id OidFault} (Ok id) (Err fault) = readings.1 (Ok id) (Err fault) (readings.0 id spelt) refused in
    cc

-- a line has 41 bytes
line_long : (id : Id) (line : List ℕ) → IsLine id line → length line ≡ 41
line_long id line is =
    let n = ap length is.parts ∙ length-append is.digits (10 ∷ []) in
    let m = is.spelt.long in
    omega (arith, n, m)

-- ---- all lines

pub chain_from_lines : (ids : List Id) (lines : List (List ℕ)) → AllZip IsLine ids lines → IsChainText ids (concat lines)
chain_from_lines [] [] h = refl
chain_from_lines [] (line ∷ lines) h = absurd h
chain_from_lines (id ∷ ids) [] h = absurd h
chain_from_lines (id ∷ ids) (line ∷ lines) h = (line, concat lines, h.0, refl, chain_from_lines ids lines h.1)

pub length-chain : (ids : List Id) (text : List ℕ) → IsChainText ids text → length text ≡ 41 * length ids
length-chain [] text h = let n = ap length h in omega (arith, n)
length-chain (id ∷ ids) text h =
    let more = length-chain ids h.1 h.4 in
    let one = line_long id h.0 h.2 in
    let n = ap length h.3 ∙ length-append h.0 h.1 in
    omega (arith, more, one, n)

-- each piece of 41 bytes is a line
pub each_is_line : (n : ℕ) (ids : List Id) (text : List ℕ) → IsChainText ids text → n * 41 ≤ length text → All (λ line. (id : Id) × IsLine id line) (first_chunks 41 n text)
each_is_line zero ids text h few = All-nil (λ line. (id : Id) × IsLine id line)
each_is_line (suc n) [] text h few = let none = ap length h in absurd (omega (arith, few, none))
each_is_line (suc n) (id ∷ ids) text h few =
    let one = line_long id h.0 h.2 in
    let long = ap length h.3 ∙ length-append h.0 h.1 in
    let first : take 41 text ≡ h.0 = ap (take 41) h.3 ∙ take_at h.0 h.1 41 one in
    let rest : drop 41 text ≡ h.1 = ap (drop 41) h.3 ∙ drop_at h.0 h.1 41 one in
    All-cons (λ line. (id : Id) × IsLine id line) (take 41 text) (first_chunks 41 n (drop 41 text))
    (id, subst (IsLine id) (sym first) h.2)
    (each_is_line n ids (drop 41 text) (subst (IsChainText ids) (sym rest) h.4) (let left = ap length rest in omega (arith, few, one, long, left)))

-- ---- at most one chain for the same text

one_line : (a b : Id) (line : List ℕ) → IsLine a line → IsLine b line → a ≡ b
one_line a b line first second =
    let digits : first.digits ≡ second.digits = sym (take_at first.digits (10 ∷ []) 40 first.spelt.long) ∙ ap (take 40) (sym first.parts ∙ second.parts) ∙ take_at second.digits (10 ∷ []) 40 second.spelt.long in
    let same = sym first.spelt.spells ∙ ap decode_of digits ∙ second.spelt.spells in
    cc

pub chains_are_one : (one other : List Id) (text : List ℕ) → IsChainText one text → IsChainText other text → one ≡ other
chains_are_one [] [] text first second = refl
chains_are_one [] (b ∷ other) text first second = let n = length-chain (b ∷ other) text second in let m = ap length first in absurd (omega (arith, n, m))
chains_are_one (a ∷ one) [] text first second = let n = length-chain (a ∷ one) text first in let m = ap length second in absurd (omega (arith, n, m))
chains_are_one (a ∷ one) (b ∷ other) text first second =
    let la = line_long a first.0 first.2 in
    let lb = line_long b second.0 second.2 in
    let line : first.0 ≡ second.0 = sym (take_at first.0 first.1 41 la) ∙ ap (take 41) (sym first.3 ∙ second.3) ∙ take_at second.0 second.1 41 lb in
    let rest : second.1 ≡ first.1 = sym (drop_at second.0 second.1 41 lb) ∙ ap (drop 41) (sym second.3 ∙ first.3) ∙ drop_at first.0 first.1 41 la in
    let head = one_line a b first.0 first.2 (subst (IsLine b) (sym line) second.2) in
    let tail = chains_are_one one other first.1 first.4 (subst (IsChainText other) rest second.4) in
    ap (λ x. x ∷ one) head ∙ ap (λ l. b ∷ l) tail
