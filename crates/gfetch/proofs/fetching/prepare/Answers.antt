use Rattle.std.proofs.Common.{refl}
use Rattle.gfetch.specs.Conversations.{cannot_begin, no_buffer}
use Rattle.gfetch.proofs.fetching.prepare.Goals as goal

pub returns-in-Err-clause-fails : goal.returns-in-Err-clause-fails
returns-in-Err-clause-fails g c = λ input output unread unwritten.
    cannot_begin c.in-Err.fault c.in-Err.ensures unread unwritten refl

pub returns-in-Err-make_room-clause-fails : goal.returns-in-Err-make_room-clause-fails
returns-in-Err-make_room-clause-fails g c = λ input output unread unwritten.
    no_buffer c.in-Ok.ensures.0 unread unwritten refl
