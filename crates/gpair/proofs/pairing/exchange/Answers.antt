use Rattle.std.proofs.Common.{Result, [], false, refl, subst}
use Rattle.std.specs.Prelude.{◌||◌}
use Rattle.std.specs.Io.KnownBytes.{append_known}
use Rattle.gpkt.specs.Sending.{output_of}
use Rattle.gfetch.specs.Starts.{start_for}
use Rattle.gfetch.specs.declared.fault.FetchFault.{FetchFault}
use Rattle.gfetch.specs.declared.fault.FetchFault.TheVariants as fetch_fault
use Rattle.gfetch.specs.declared.fetched.Fetched.{Fetched}
use Rattle.gpair.specs.Joined.{all_input, all_read}
use Rattle.gpair.specs.Messages.{Holding}
use Rattle.gpair.specs.Pairs.{FetchesSo}
use Rattle.gpair.proofs.PairLemmas.{greeted, not_greeted, pair_fails}
use Rattle.gpair.proofs.pairing.exchange.Goals as goal

pub returns-in-Ok-fetched : goal.returns-in-Ok-fetched
returns-in-Ok-fetched g c =
    let indexes = g.K.KeepingIndexer.indexes in
    let fails = g.K.KeepingIndexer.index_fails in
    let fetch = c.args.fetch.now in
    let start = start_for c.args.repo.now fetch.specs.now fetch.limit fetch.ends fetch.options in
    let contents = λ (m : Holding g.row.V.Denot). append_known (g.V.Sink.contents m.inner) m.held in
    let passed_on = λ (m : Holding g.row.V.Denot). g.V.Sink.contents m.inner in
    let is_down = λ (m : Holding g.row.V.Denot). m.down in
    let new = c.fetch_joined-fetched.new.repo in
    let h = c.fetch_joined-fetched.ensures in
    let requests = c.fetch_joined-fetched.result.1.1 in
    subst (λ (r : Result (Fetched g.row.A.Denot) (FetchFault g.row.A.Denot)). FetchesSo indexes fails start fetch.hello.now new r) c.in-Ok-fetched.is
    (greeted indexes fails start fetch.hello.now new contents passed_on is_down c.new-requests.result c.greet.new.sink requests
    (all_input (all_read h.received) h.lost) c.fetch_joined-fetched.result.0 c.in-Ok.ensures.greets h.runs)

pub returns-in-Ok : goal.returns-in-Ok
returns-in-Ok g c =
    let indexes = g.K.KeepingIndexer.indexes in
    let fails = g.K.KeepingIndexer.index_fails in
    let fetch = c.args.fetch.now in
    let start = start_for c.args.repo.now fetch.specs.now fetch.limit fetch.ends fetch.options in
    let contents = λ (m : Holding g.row.V.Denot). append_known (g.V.Sink.contents m.inner) m.held in
    let passed_on = λ (m : Holding g.row.V.Denot). g.V.Sink.contents m.inner in
    let is_down = λ (m : Holding g.row.V.Denot). m.down in
    let new = c.fetch_joined-fetched.new.repo in
    let h = c.fetch_joined-fetched.ensures in
    let requests = c.fetch_joined-fetched.result.1.1 in
    let replies = c.fetch_joined-fetched.new.far.sink in
    pair_fails indexes fails start fetch.hello.now new c.in-Err-fetched.fault
    (requests.too_long || replies.too_long) (requests.lacks_memory || replies.lacks_memory) c.fault_of.result c.fault_of.ensures
    (subst (λ (r : Result (Fetched g.row.A.Denot) (FetchFault g.row.A.Denot)). FetchesSo indexes fails start fetch.hello.now new r) c.in-Err-fetched.is
    (greeted indexes fails start fetch.hello.now new contents passed_on is_down c.new-requests.result c.greet.new.sink requests
    (all_input (all_read h.received) h.lost) c.fetch_joined-fetched.result.0 c.in-Ok.ensures.greets h.runs))

pub returns : goal.returns
returns g c =
    let indexes = g.K.KeepingIndexer.indexes in
    let fails = g.K.KeepingIndexer.index_fails in
    let fetch = c.args.fetch.now in
    let start = start_for c.args.repo.now fetch.specs.now fetch.limit fetch.ends fetch.options in
    let contents = λ (m : Holding g.row.V.Denot). append_known (g.V.Sink.contents m.inner) m.held in
    let passed_on = λ (m : Holding g.row.V.Denot). g.V.Sink.contents m.inner in
    let is_down = λ (m : Holding g.row.V.Denot). m.down in
    let new = c.args.repo.now in
    let requests = c.greet.new.sink in
    let replies = c.args.far.now.sink in
    pair_fails indexes fails start fetch.hello.now new fetch_fault.WriteFailed
    (requests.too_long || replies.too_long) (requests.lacks_memory || replies.lacks_memory) c.fault_of-in-Err.result c.fault_of-in-Err.ensures
    (not_greeted indexes fails start fetch.hello.now new (all_input (all_read []) false)
    (output_of contents passed_on is_down c.new-requests.result requests)
    (record { fails = c.in-Err.ensures.greets; unread = record { read = refl; down = refl } }) refl)
