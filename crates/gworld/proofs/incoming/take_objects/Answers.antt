use Rattle.std.proofs.Common.{◌≡◌, ◌∙◌, List, ℕ, false, subst, sym, refl}
use Rattle.ggrammar.specs.MessageBytes.{known_bytes}
use Rattle.gsession.specs.TakingReplies.{TakesReply}
use Rattle.gworld.specs.Taking.{TakesObjects}
use Rattle.gworld.specs.declared.outcome.Outcome.{Outcome}
use Rattle.gworld.proofs.CodeLemmas.{took_objects}
use Rattle.gworld.proofs.incoming.take_objects.Goals as goal

pub returns-clause-takes : goal.returns-clause-takes
returns-clause-takes g c =
    let indexes = g.I.KeepingIndexer.indexes in
    let index_fails = g.I.KeepingIndexer.index_fails in
    let s = c.args.session.now in
    let repo = c.args.repo.now in
    let after = c.take_reply_into-result.new.self in
    let moved = c.take_reply_into-result.new.repo in
    let left = c.take_reply_into-result.new.reader.source in
    let same : c.with_buffer-reader.result.source ≡ c.args.bytes.now =
    c.with_buffer-reader.ensures.source ∙ c.new.ensures in
    let takes = subst (λ (b : List ℕ). TakesReply indexes index_fails s repo (known_bytes b left) after moved
    c.take_reply_into-result.result) same c.take_reply_into-result.ensures.takes in
    subst (λ (o : Outcome). TakesObjects indexes index_fails s repo c.args.bytes.now o after moved)
    (sym c.objects_outcome.ensures)
    (took_objects indexes index_fails (λ (x : List ℕ). false) c.with_buffer-reader.result
    c.take_reply_into-result.new.reader s after repo moved c.args.bytes.now left c.take_reply_into-result.result
    c.with_buffer-reader.ensures.failed refl takes c.take_reply_into-result.ensures.reader)
