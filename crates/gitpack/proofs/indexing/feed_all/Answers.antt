use Rattle.std.proofs.Common.{◌++◌, sym, ap, ◌∙◌, rules, append_assoc, append-nil}
use Rattle.std.proofs.lemmas.List.{nil_from_length}
use Rattle.std.specs.Slice.Iter.{chunks_rest}
use Rattle.gitpack.proofs.indexing.feed_all.Goals as goal

pub loop-piece-init : goal.loop-piece-init
loop-piece-init g c = (search rules, tt, search rules, search rules)

pub loop-piece-preserved : goal.loop-piece-preserved
loop-piece-preserved g c =
    let steps = c.in-Some.ensures.steps in
    let rest = chunks_rest c.next.new.self in (
      search rules,
      tt,
      steps.0 ∙ c.loop-piece.invariant.2,
      ap (λ l. l ++ rest) c.in_ok-feed.ensures
          ∙ append_assoc c.loop-piece.incoming c.in-Some.piece.now rest
          ∙ ap (λ l. c.loop-piece.incoming ++ l) (sym steps.1.0)
          ∙ c.loop-piece.invariant.3,
    )

pub returns : goal.returns
returns g c =
    let none = nil_from_length _ c.in-None.ensures.steps.1.0 in
    sym (append-nil c.loop-piece.incoming) ∙ ap (λ l. c.loop-piece.incoming ++ l) (sym none) ∙ c.loop-piece.invariant.3
