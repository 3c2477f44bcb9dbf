use Rattle.std.proofs.Common.{ℕ, List, length, sym, ap, ap₂, ◌∙◌, arith}
use Rattle.ggrammar.specs.Limits.{profile}
use Rattle.grequest.specs.Asked.{max_prefixes}
use Rattle.grequest.specs.Building.{LimitedLsRefs}
use Rattle.gsession.specs.Requesting.{ls_request}
use Rattle.gsession.specs.steps.Calls.{with_prefix}
use Rattle.gsession.proofs.BuildLemmas.{prefixes_more, with_prefix_few}
use Rattle.gsession.proofs.requests.refs_request.Goals as goal

abbrev with : LimitedLsRefs → List ℕ → LimitedLsRefs
with request prefix =
    record request { asked = record request.asked { prefixes = with_prefix request.asked.prefixes prefix } }

pub add_prefix-requires : goal.add_prefix-requires
add_prefix-requires g c =
    let limits = ap (λ (r : LimitedLsRefs). max_prefixes r.limits) c.loop-spec.invariant.made in
    omega (arith, limits, c.loop-spec.invariant.few, c.loop-spec-test.true, c.requires)

pub loop-spec-preserved : goal.loop-spec-preserved
loop-spec-preserved g c = record {
  made =
      c.in_ok-add_prefix.ensures ∙ ap₂ with c.loop-spec.invariant.made c.prefix.ensures
      ∙ ap (λ (l : List (List ℕ)). record {
        limits = profile;
        asked = record (ls_request c.args.specs.now c.args.unborn) { prefixes = l };
      })
      (sym (prefixes_more c.args.specs.now c.loop-spec.spec-index c.spec-item.result c.loop-spec-test.true
      (sym c.spec-item.is)));
  few = omega (
    arith,
    ap (λ (r : LimitedLsRefs). length r.asked.prefixes) c.in_ok-add_prefix.ensures,
    with_prefix_few c.loop-spec.request.asked.prefixes c.prefix.result.now,
    c.loop-spec.invariant.few,
  );
}
