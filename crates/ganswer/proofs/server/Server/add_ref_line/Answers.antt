use Rattle.std.proofs.Common.{[], ◌∷◌, List, ℕ, sym, subst}
use Rattle.ggrammar.proofs.BuildingLemmas.{only_memory}
use Rattle.glsreply.specs.RefTexts.{RefLine}
use Rattle.ganswer.specs.LsAnswers.{ShowsLines}
use Rattle.ganswer.proofs.FitLemmas.{goes, room}
use Rattle.ganswer.proofs.LsLemmas.{with_lines}
use Rattle.ganswer.proofs.server.Server.add_ref_line.Goals as goal

pub no_memory-requires : goal.no_memory-requires
no_memory-requires g c =
    let server = c.args.self.now in
    let asked = c.args.request.now.asked in
    let ref : List ℕ × List ℕ = (c.args.name.now, c.args.id) in
    let shows = subst (λ (line : RefLine). ShowsLines server asked (ref ∷ []) (line ∷ [])) (sym c.in_ok-line.ensures) c.in-Some.ensures in
    let fits = goes c.positions_are_nodes.ensures c.ids_have_one_format.ensures server c.laws.ensures asked ref c.args.reply.now c.requires.next c.in_ok-line.line shows in
    let space = room c.positions_are_nodes.ensures c.ids_have_one_format.ensures server c.laws.ensures asked ref c.args.reply.now c.requires.next in
    only_memory _ _ c.in-Err.fault.why fits space c.in-Err.ensures.2

pub returns-in-Ok-clause-added : goal.returns-in-Ok-clause-added
returns-in-Ok-clause-added g c =
    λ front so_far.
    let server = c.args.self.now in
    let asked = c.args.request.now.asked in
    let ref : List ℕ × List ℕ = (c.args.name.now, c.args.id) in
    let shows = subst (λ (line : RefLine). ShowsLines server asked (ref ∷ []) (line ∷ [])) (sym c.in_ok-line.ensures) c.in-Some.ensures in
    with_lines server asked front ref c.args.reply.now c.push.new.self (c.in_ok-line.line ∷ []) c.in-Ok.ensures.2 shows so_far
