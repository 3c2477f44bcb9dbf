use Rattle.std.proofs.Common.{◌≡◌, ◌≢◌, ◌++◌, [], ℕ, List, Bor, MatchOption, IfSome, Option, Some, None}
use Rattle.std.proofs.lemmas.Bool.Decides.{Decides-eqb}
use Rattle.std.proofs.lemmas.Slice.Eq.{strip_prefix_is}
use Rattle.ggraph.proofs.text.recent.after.Goals as goal

-- the text after digits that are not empty
follows : (digits text : List ℕ) (found : Option (Bor (List ℕ))) → digits ≢ [] → MatchOption found ((rest : List ℕ) → text ≢ digits ++ rest) (λ rest. text ≡ digits ++ rest.now) → IfSome found (λ rest. (digits ≢ []) × (text ≡ digits ++ rest.now))
follows digits text (Some rest) some is = (some, is)
follows digits text None some is = tt

pub returns : goal.returns
returns c =
    let some : c.args.digits.now ≢ [] = λ none. (let empty = rw none at c.is_empty.ensures in cc) in
    follows c.args.digits.now c.args.text.now c.strip_prefix.result some
    (strip_prefix_is Decides-eqb c.args.text.now c.args.digits.now c.strip_prefix.result c.strip_prefix.ensures.cases)
