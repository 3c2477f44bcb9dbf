use Rattle.std.proofs.Common.{◌≢◌, [], ◌∷◌, ◌++◌, All, filter, ap, sym, ◌∙◌}
use Rattle.std.proofs.lemmas.List.Elements.{All-push, filter-append}
use Rattle.gitobjects.specs.Alternates.{names_folder}
use Rattle.gitobjects.proofs.PartsLemmas.{ended_by-more}
use Rattle.gitobjects.proofs.alternates.folder_names.Goals as goal

pub loop-line-preserved : goal.loop-line-preserved
loop-line-preserved g c =
    let inv = c.loop-line.invariant in
    let line = c.in-Some.line.now in (
      inv.0 ++ line ∷ [],
      ended_by-more 10 c.args.text.now inv.0 line c.loop-line.rest.now c.in-Some.after.now inv.1 c.in-Some.ensures.parts.1,
      All-push (All (λ b. b ≢ 10)) inv.0 line inv.2 c.in-Some.ensures.parts.0,
      c.in_ok-push_name.ensures ∙ ap (λ l. l ++ filter names_folder (line ∷ [])) inv.3 ∙ sym (filter-append names_folder inv.0 (line ∷ [])),
    )
