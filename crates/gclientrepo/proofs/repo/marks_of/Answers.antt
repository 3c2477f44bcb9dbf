use Rattle.std.proofs.Common.{◌≡◌, ◌∙◌, All, subst, sym}
use Rattle.std.specs.Map.{values_of}
use Rattle.gdag.specs.Reach.{IsConnected}
use Rattle.gclientrepo.proofs.RepoLemmas.{connected_opened}
use Rattle.gclientrepo.proofs.repo.marks_of.Goals as goal

pub mark_connected-requires : goal.mark_connected-requires
mark_connected-requires g c =
    let ids : c.as_slice.result.now ≡ values_of c.args.refs.now = c.as_slice.ensures.value ∙ c.in_ok-targets.ensures in
    subst (All (IsConnected c.args.graph.now.entries)) (sym ids) c.requires

pub returns-clause-whole : goal.returns-clause-whole
returns-clause-whole g c =
    let ids : c.as_slice.result.now ≡ values_of c.args.refs.now = c.as_slice.ensures.value ∙ c.in_ok-targets.ensures in
    connected_opened c.args.graph.now c.args.refs.now c.mark_connected.new.marks c.requires (c.mark_connected.ensures.connected (c.new-known.ensures.connected c.args.graph.now.entries))
    (rw (ids, c.new-known.ensures.none) at c.in_ok-mark_connected.ensures.marked)
