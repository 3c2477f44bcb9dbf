use Rattle.std.proofs.Common.{sym}
use Rattle.gparts.proofs.Giving.{takes_front}
use Rattle.gparts.proofs.whole.WholeParts.give.Goals as goal

pub returns : goal.returns
returns g c =
    takes_front c.args.self.now c.self.inside.pack.items c.deref.result.now c.args.out.now c.copy_from_slice.new.self
    c.self.inside.given c.min-count.result (sym c.self.view_is) c.requires
    c.deref.ensures.value c.min-count.ensures c.copy_from_slice.ensures.after
