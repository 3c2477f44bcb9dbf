use Rattle.std.proofs.Common.{◌++◌, List, ℕ, map, codes, ap, ◌∙◌}
use Rattle.gobject.specs.PlainPackText.{line, node_text, text_of}
use Rattle.ggraph.specs.RepositoryText.{ref_line, first_line, head_line}
use Rattle.ggraph.proofs.SaveLemmas.{whole_text}
use Rattle.ggraph.proofs.text.saving.text_of_repository.Goals as goal

pub returns-clause-text : goal.returns-clause-text
returns-clause-text g c =
    let refs = rw c.as_slice.ensures.refs at c.in_ok-put_refs.ensures in
    let first_is = rw (c.line_of.ensures, c.format.ensures) at c.in_ok-extend_from_slice.ensures.items in
    let first = first_is ∙ ap (λ (t : List ℕ). t ++ line (first_line c.args.graph.now.format)) c.new-text.ensures.items in
    c.in_ok-extend_from_slice-2.ensures.items
    ∙ ap (λ (t : List ℕ). t ++ codes "end\n")
    (c.in_ok-put_head.ensures
    ∙ ap (λ (t : List ℕ). t ++ line (head_line c.args.head.now))
    (refs ∙ ap (λ (t : List ℕ). t ++ text_of (map ref_line c.args.refs.now)) (c.in_ok-put_nodes.ensures ∙ ap (λ (t : List ℕ). t ++ text_of (map node_text c.args.graph.now.entries)) first)))
    ∙ whole_text c.args.graph.now c.args.refs.now c.args.head.now
