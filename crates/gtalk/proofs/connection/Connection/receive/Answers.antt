use Rattle.std.proofs.Common.{arith}
use Rattle.gtalk.proofs.Moves.{grows_goes, hears, hears_goes, ok_not_err, refused_kept, refused_stops, refused_well, stops_goes, taken}
use Rattle.gtalk.proofs.connection.Connection.receive.Goals as goal

pub returns-in-Ok-Some-clause-moves : goal.returns-in-Ok-Some-clause-moves
returns-in-Ok-Some-clause-moves g c = λ received sent h.
    let spelt = rw c.in-Ok-Some.field-0-is at c.in-Ok-Some.ensures.found in
    hears g.C.Conversation.holds c.args.self.now c.hear.new.self _ _ c.take_bytes.new.self.bytes c.clear.new.self _ received sent c.requires.goes_on
    c.clear.ensures.empty (taken _ _ c.is_err.ensures.value c.if-is_err.false c.take_bytes.ensures.taken) spelt c.hear.ensures.heard h

pub returns-in-Ok-Some-clause-goes : goal.returns-in-Ok-Some-clause-goes
returns-in-Ok-Some-clause-goes g c =
    let spelt = rw c.in-Ok-Some.field-0-is at c.in-Ok-Some.ensures.found in
    let wide = c.take_bytes.ensures.room in
    let same = c.clear.ensures.room in
    hears_goes g.C.Conversation.holds g.C.Conversation.turn c.args.self.now c.hear.new.self _ _ c.take_bytes.new.self.bytes c.clear.new.self _ c.requires.goes_on
    c.clear.ensures.empty (taken _ _ c.is_err.ensures.value c.if-is_err.false c.take_bytes.ensures.taken) spelt c.hear.ensures.heard (omega (arith, wide, same))

pub returns-then-is_err-clause-goes : goal.returns-then-is_err-clause-goes
returns-then-is_err-clause-goes g c =
    stops_goes g.C.Conversation.holds g.C.Conversation.turn c.args.self.now c.stop.new.self _ c.args.bytes.now c.take_bytes.new.self _ c.requires.goes_on
    (λ part. c.requires.wanted.within c.args.bytes.now (omega arith)) tt c.stop.ensures.stopped c.take_bytes.ensures.room
    (λ enough. absurd (ok_not_err c.take_bytes.result _ c.is_err.ensures.value c.if-is_err.true (c.take_bytes.ensures.enough enough)))

pub returns-in-Ok-None-clause-goes : goal.returns-in-Ok-None-clause-goes
returns-in-Ok-None-clause-goes g c =
    grows_goes g.C.Conversation.holds g.C.Conversation.turn c.args.self.now c.args.bytes.now c.take_bytes.new.self _ c.requires.turn c.requires.goes_on
    (taken _ _ c.is_err.ensures.value c.if-is_err.false c.take_bytes.ensures.taken) (rw c.in-Ok-None.field-0-is at c.in-Ok-None.ensures.found) c.take_bytes.ensures.room

pub returns-in-Err-clause-goes : goal.returns-in-Err-clause-goes
returns-in-Err-clause-goes g c =
    let is = taken _ _ c.is_err.ensures.value c.if-is_err.false c.take_bytes.ensures.taken in
    stops_goes g.C.Conversation.holds g.C.Conversation.turn c.args.self.now c.stop-in-Err.new.self _ c.args.bytes.now c.take_bytes.new.self _ c.requires.goes_on
    (λ part. refused_stops c.in-Err.fault _ c.take_bytes.new.self.bytes is c.in-Err.ensures.found) (refused_kept c.in-Err.fault _ c.take_bytes.new.self.bytes is) c.stop-in-Err.ensures.stopped c.take_bytes.ensures.room
    (λ enough. refused_well c.in-Err.fault c.take_bytes.new.self.bytes c.in-Err.ensures.found)
