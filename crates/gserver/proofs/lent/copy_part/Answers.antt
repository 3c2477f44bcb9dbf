use Rattle.std.proofs.Common.{refl}
use Rattle.gparts.proofs.Giving.{takes_front}
use Rattle.gserver.proofs.lent.copy_part.Goals as goal

pub returns-clause-takes : goal.returns-clause-takes
returns-clause-takes c =
    takes_front _ c.args.pack.now c.args.pack.now c.args.out.now c.copy_from_slice.new.self
    c.args.given c.min-count.result refl c.requires.room
    refl c.min-count.ensures c.copy_from_slice.ensures.after
