use Rattle.std.proofs.Common.{[], subst, sym}
use Rattle.gpkt.specs.Change.{change_of}
use Rattle.gfetchreply.specs.FetchReplies.{Reading}
use Rattle.gfetchreply.specs.FetchHeads.{pack_of}
use Rattle.gsession.specs.steps.Calls.{AnswersRead, MayHaveFed}
use Rattle.gsession.specs.TakingReplies.{ReadsFetch}
use Rattle.gsession.proofs.KeepingLemmas.{keeps_none}
use Rattle.gsession.proofs.ReplyLemmas.{read_answer, read_leaves}
use Rattle.gsession.proofs.session.Session.read_objects.Given.{Over}
use Rattle.gsession.proofs.session.Session.read_objects.Goals as goal

-- the result of accepting or rejecting the complete reply
answers : (g : Over) (c : goal.After-take_head g)
    → AnswersRead g.K.KeepingIndexer.indexes g.K.KeepingIndexer.index_fails
    c.in-Some.ensures.0.haves c.args.self.now c.args.repo.now c.in-Ok.ensures.read.reply c.take_head.new.self
    c.take_head.new.repo c.take_head.result
answers g c =
    let read = c.in-Ok.ensures.read in
    let fed = subst (λ f. MayHaveFed g.K.KeepingIndexer.fed g.K.KeepingIndexer.index_fails f (pack_of read.reply))
    (sym c.into_feed-feed.ensures) (read.pack [] c.start-feed.ensures) in
    c.take_head.ensures.answers c.in-Some.ensures.0 read.reply c.in-Some.ensures.1 read.is_head fed

pub returns-in-Ok-clause-takes : goal.returns-in-Ok-clause-takes
returns-in-Ok-clause-takes g c =
    let change = change_of g.S.Source.remaining c.args.reader.now.source c.read_fetch_reply_into_in-read.new.reader.source in
    let read = c.in-Ok.ensures.read in
    let reads = subst (λ (r : Reading). ReadsFetch r change read.reply) c.in-Some.ensures.2 read.read in
    read_answer g.K.KeepingIndexer.indexes g.K.KeepingIndexer.index_fails c.args.self.now
    c.args.repo.now change c.in-Some.ensures.0 read.reply c.take_head.new.self c.take_head.new.repo c.take_head.result
    c.in-Some.ensures.1 reads (answers g c)

pub returns-in-Ok-clause-reader : goal.returns-in-Ok-clause-reader
returns-in-Ok-clause-reader g c =
    read_leaves g.K.KeepingIndexer.indexes g.K.KeepingIndexer.index_fails
    g.S.Source.is_down c.args.reader.now c.read_fetch_reply_into_in-read.new.reader c.in-Some.ensures.0.haves
    c.args.self.now c.args.repo.now c.in-Ok.ensures.read.reply c.take_head.new.self c.take_head.new.repo
    c.take_head.result c.in-Ok.ensures.reader (answers g c)

pub returns-in_default-clause-keeps : goal.returns-in_default-clause-keeps
returns-in_default-clause-keeps g c = keeps_none (g.K.KeepingIndexer.keeps c.args.indexer.now) c.args.repo.now.graph.entries

pub returns-in-Err-clause-keeps : goal.returns-in-Err-clause-keeps
returns-in-Err-clause-keeps g c = keeps_none (g.K.KeepingIndexer.keeps c.args.indexer.now) c.args.repo.now.graph.entries
