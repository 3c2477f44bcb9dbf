use Rattle.std.proofs.Common.{◌+◌, ◌/◌, ◌++◌, ◌∷◌, ◌∙◌, [], All, ap, length, subst, sym, take, arith}
use Rattle.std.specs.List.{AllZip, concat}
use Rattle.std.proofs.lemmas.Bool.{eqb-false, eqb-true}
use Rattle.std.proofs.lemmas.List.{take_all, take_more}
use Rattle.std.proofs.lemmas.Slice.Zip.{all_zipped_more}
use Rattle.gname.specs.Ids.{Id}
use Rattle.gitcommitgraph.specs.Chains.{IsChainText, IsLine}
use Rattle.gitcommitgraph.proofs.LineLemmas.{chain_from_lines, each_is_line, length-chain}
use Rattle.gitcommitgraph.proofs.RowLemmas.{pieces_joined}
use Rattle.gitcommitgraph.proofs.chain.parse_chain.Goals as goal

pub returns-in_default : goal.returns-in_default
returns-in_default g c ids chain =
    let text = c.args.text.now in
    let each = each_is_line (length text / 41) ids text chain (omega arith) in
    let one = subst (All (λ line. (id : Id) × IsLine id line)) (sym c.as_chunks.ensures.front) each c.loop-line.line-index [] (omega arith) in
    c.in_default.ensures one.0 one.1

pub loop-line-preserved : goal.loop-line-preserved
loop-line-preserved g c =
    let lines = c.as_chunks.result.0.now in
    let i = c.loop-line.line-index in
    let ids = c.loop-line.ids.items in
    subst (λ all. AllZip IsLine all (take (i + 1) lines)) (sym c.in_ok-push.ensures.items)
    (subst (AllZip IsLine (ids ++ c.in-Some.id ∷ [])) (sym (take_more lines i [] (omega arith)))
    (all_zipped_more IsLine ids (take i lines) c.in-Some.id _ c.loop-line.invariant c.in-Some.ensures))

pub returns-then-is_empty : goal.returns-then-is_empty
returns-then-is_empty g c =
    let text = c.args.text.now in
    let none = eqb-true (length c.as_chunks.result.1.now) 0 (sym c.is_empty.ensures ∙ c.if-is_empty.true) in
    let rest = c.as_chunks.ensures.back_len in
    let whole = take_all c.loop-line.line-index c.as_chunks.result.0.now (omega arith) in
    subst (IsChainText c.loop-line.ids.items)
    (ap concat (whole ∙ c.as_chunks.ensures.front) ∙ pieces_joined 41 (length text / 41) text (omega (arith, none, rest)))
    (chain_from_lines c.loop-line.ids.items (take c.loop-line.line-index c.as_chunks.result.0.now) c.loop-line.invariant)

pub returns-else-is_empty : goal.returns-else-is_empty
returns-else-is_empty g c ids chain =
    let long = length-chain ids c.args.text.now chain in
    let rest = c.as_chunks.ensures.back_len in
    eqb-false (length c.as_chunks.result.1.now) 0 (sym c.is_empty.ensures ∙ c.if-is_empty.false) (omega (arith, long, rest))
