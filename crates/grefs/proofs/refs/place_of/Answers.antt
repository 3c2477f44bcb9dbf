use Rattle.std.proofs.Common.{rules}
use Rattle.std.proofs.lemmas.Fn.{always_returns_same}
use Rattle.grefs.proofs.RefLemmas.{gap_last, order, searched}
use Rattle.grefs.proofs.refs.place_of.Goals as goal

pub returns-then-are_below : goal.returns-then-are_below
returns-then-are_below g c =
    gap_last c.args.refs.now c.args.name.now (rw c.as_bytes.ensures.bytes at (c.are_below.ensures.0 c.if-are_below.true))

-- the closure compares the name of a ref with the name to find
pub returns : goal.returns
returns g c =
    let facts = c.binary_search_by.ensures in
    let by_name = facts.position (λ ref. order ref.0 c.args.name.now) (always_returns_same _ _ _ (λ a r g called. (search rules, search rules))) in
    searched c.args.name.now c.args.refs.now c.requires.ascending c.binary_search_by.result facts.bound by_name
