use Rattle.std.proofs.Common.{◌<◌, ◌≤◌, [], ◌∷◌, ◌++◌, length, map, refl, ap, ◌∙◌, subst}
use Rattle.gpkt.specs.Packets.{canonical_all}
use Rattle.grefs.specs.RefLists.{RefList}
use Rattle.glsreply.specs.LsReplies.{ref_packet}
use Rattle.ganswer.specs.steps.Answers.{line_list}
use Rattle.gserver.proofs.RefLemmas.{ref_found, refs_from, some_lines}
use Rattle.gserver.proofs.ref_lines.say_ref.Goals as goal

pub line-line-requires : goal.line-line-requires
line-line-requires g c =
    let lookup = c.in-Some.ensures.lookup in
    c.peeled_at-peeled.ensures c.in-Some.found.now
    (ref_found c.args.server.now.refs c.as_slice.result.now c.args.at c.in-Some.found.now (c.as_slice.ensures.refs ∙ c.refs.ensures.refs)
    lookup.3.0 (lookup.3.1 c.in-Some.found.now))

pub returns-in-Some : goal.returns-in-Some
returns-in-Some g c =
    let lookup = c.in-Some.ensures.lookup in
    let ref = c.in-Some.found.now in
    let same = c.as_slice.ensures.refs ∙ c.refs.ensures.refs in (
      subst (λ (r : RefList). c.args.at < length r) same lookup.3.0,
      (
        ref,
        refs_from c.args.server.now.refs c.as_slice.result.now c.args.at ref same lookup.3.0 (lookup.3.1 ref),
        some_lines c.args.server.now c.args.asked.now.asked (ref ∷ []) (ref ∷ []) (line_list c.line-line.result)
            c.args.out.now c.say_line.new.out refl c.line-line.ensures
            (c.say_line.ensures ∙ ap (λ o. c.args.out.now ++ canonical_all (map ref_packet (line_list o))) c.as_ref.ensures.value),
      ),
    )

pub returns-in-None : goal.returns-in-None
returns-in-None g c =
    (subst (λ (r : RefList). length r ≤ c.args.at) (c.as_slice.ensures.refs ∙ c.refs.ensures.refs) c.in-None.ensures.lookup.3, refl)
