use Rattle.std.proofs.Common.{ℕ, List, [], ◌∷◌, ◌++◌, map, sym, ap, ◌∙◌}
use Rattle.gpkt.specs.Packets.{canonical_all}
use Rattle.glsreply.specs.LsReplies.{ref_packet}
use Rattle.ganswer.specs.LsAnswers.{head_ref}
use Rattle.ganswer.specs.steps.Answers.{line_list}
use Rattle.gserver.proofs.RefLemmas.{no_lines, some_lines}
use Rattle.gserver.proofs.ref_lines.say_head.Goals as goal

pub returns-in-Some : goal.returns-in-Some
returns-in-Some g c =
    let refs = ap head_ref (sym c.in-Some.ensures) ∙ ap (λ (n : List ℕ). (n, c.in-Some.id) ∷ []) (sym c.name_of_head.ensures) in
    some_lines c.args.server.now c.args.asked.now.asked _ ((c.name_of_head.result.now, c.in-Some.id) ∷ []) (line_list c.line-line.result)
    c.args.out.now c.say_line.new.out refs c.line-line.ensures
    (c.say_line.ensures ∙ ap (λ o. c.args.out.now ++ canonical_all (map ref_packet (line_list o))) c.as_ref.ensures.value)

pub returns-in-None : goal.returns-in-None
returns-in-None g c = no_lines c.args.server.now c.args.asked.now.asked _ c.args.out.now (ap head_ref (sym c.in-None.ensures))
