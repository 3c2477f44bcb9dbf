use Rattle.std.proofs.Common.{◌∙◌, ap, refl, arith}
use Rattle.ggrammar.specs.declared.ends.Ends.{Ends}
use Rattle.grequest.specs.Asked.{Empty, Fetches, Ls}
use Rattle.grequest.specs.Requests.{State}
use Rattle.gfetchreply.specs.FetchReplies.{canonical_reply}
use Rattle.gfetchreply.specs.Views.{reply_in}
use Rattle.ganswer.specs.Answers as reply
use Rattle.gserver.proofs.LentLemmas.{closed, declined, keeps_all, replied, says_request}
use Rattle.gserver.proofs.lent_side.LentSideSideRequestReaderServerReplyLentUsize.answer.Goals as goal

pub returns-in-Empty-clause-answers : goal.returns-in-Empty-clause-answers
returns-in-Empty-clause-answers g c = λ lines said goes whole hears may.
    let old = c.args.self.now in
    let says = says_request old.server.now.graph.format c.args.message lines Empty hears.judged whole
    (c.in-Empty.ensures.asked ∙ ap (λ (s : State). s.asked) hears.held) in
    closed g.K.Recorded.once g.K.Recorded.packs g.K.Recorded.fails old Empty lines said goes says c.close.new.self refl c.close.ensures.closes
    (c.close.ensures.said said may.1.0 may.1.1) may.0

pub returns-in-Ls-clause-answers : goal.returns-in-Ls-clause-answers
returns-in-Ls-clause-answers g c = λ lines said goes whole hears may.
    let old = c.args.self.now in
    let asked = Ls c.in-Ls.asked.asked in
    let says = says_request old.server.now.graph.format c.args.message lines asked hears.judged whole
    (c.in-Ls.ensures.asked ∙ ap (λ (s : State). s.asked) hears.held) in
    let r = c.list.ensures.replies said goes may in
    replied g.K.Recorded.once g.K.Recorded.packs g.K.Recorded.fails old asked lines said goes says old c.list.new.self (reply.Ls r.0.0)
    (keeps_all g.K.Recorded.once old) c.list.ensures.counts (λ empty. absurd (cc empty)) (λ ready. ready.unasked) (λ ready. r.0.1) r.0.2 r.1

pub returns-in-Ok-clause-answers : goal.returns-in-Ok-clause-answers
returns-in-Ok-clause-answers g c = λ lines said goes whole hears may.
    let old = c.args.self.now in
    let asked = Fetches c.in-Fetch.asked.asked in
    let says = says_request old.server.now.graph.format c.args.message lines asked hears.judged whole
    (c.in-Fetch.ensures.asked ∙ ap (λ (s : State). s.asked) hears.held) in
    let r = c.send.ensures.replies said goes may in
    replied g.K.Recorded.once g.K.Recorded.packs g.K.Recorded.fails old asked lines said goes says c.fetch.new.self c.send.new.self
    (reply.Fetch (reply_in c.in-Ok.reply)) c.fetch.ensures.asks c.send.ensures.counts (λ empty. absurd (cc empty))
    (λ ready. c.in-Ok.ensures.packing ready.unasked) (λ ready. c.in-Ok.ensures.answers ready.unasked)
    (r.0 ∙ ap (λ (e : Ends). canonical_reply e (reply_in c.in-Ok.reply)) c.fetch.ensures.asks.keeps.ends) r.1

pub returns-in-Ok-clause-fewer : goal.returns-in-Ok-clause-fewer
returns-in-Ok-clause-fewer g c = λ reply is.
    let less = c.send.ensures.fewer reply is in
    let most = c.fetch.ensures.asks.keeps.most in
    let requests = c.fetch.ensures.asks.requests in
    omega (arith, less, most, requests)

pub returns-clause-answers : goal.returns-clause-answers
returns-clause-answers g c = λ lines said goes whole hears may.
    let old = c.args.self.now in
    let asked = Fetches c.in-Fetch.asked.asked in
    let says = says_request old.server.now.graph.format c.args.message lines asked hears.judged whole
    (c.in-Fetch.ensures.asked ∙ ap (λ (s : State). s.asked) hears.held) in
    declined g.K.Recorded.once g.K.Recorded.packs g.K.Recorded.fails old asked lines said goes says c.fetch.new.self c.decline.new.self
    c.in-Err.fault c.fetch.ensures.asks c.decline.ensures.closes (λ ready. c.in-Err.ensures.answers ready.unasked)
    (λ ready. c.in-Err.ensures.packing ready.unasked) (c.decline.ensures.said said may.1.0 may.1.1) may.0
