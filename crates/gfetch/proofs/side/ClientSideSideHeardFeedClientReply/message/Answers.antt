use Rattle.gfetch.proofs.HeardLemmas.{first_advert, first_objects, first_refs}
use Rattle.gfetch.proofs.side.ClientSideSideHeardFeedClientReply.message.Goals as goal

pub returns-in-Some : goal.returns-in-Some
returns-in-Some g c =
    let session = c.args.self.now.client.session in
    let is = rw c.session-session.ensures at c.in-Some.ensures in
    first_refs session g.K.KeepingIndexer.fed g.K.KeepingIndexer.index_fails session.pending is.0.0 c.in-Some.reader is.0.1 is.1 is.2 is.3

pub returns-in-Some-objects_reader : goal.returns-in-Some-objects_reader
returns-in-Some-objects_reader g c =
    let session = c.args.self.now.client.session in
    let is = rw c.session-session.ensures at c.in-Some-objects_reader.ensures in
    first_objects session g.K.KeepingIndexer.fed g.K.KeepingIndexer.index_fails session.pending is.0 c.in-Some-objects_reader.reader is.1 is.2

pub returns-in-None : goal.returns-in-None
returns-in-None g c =
    let session = c.args.self.now.client.session in
    first_advert session g.K.KeepingIndexer.fed g.K.KeepingIndexer.index_fails session.pending c.new.result
    (rw c.session-session.ensures at c.in_default.ensures) (rw c.session-session.ensures at c.in-None.ensures) c.new.ensures
