use Rattle.std.proofs.Common.{rules, refl}
use Rattle.gitrepository.proofs.PartLemmas.{going_put}
use Rattle.gitrepository.proofs.outgoing.Outgoing.put.Goals as goal

pub returns-clause-going : goal.returns-clause-going
returns-clause-going g c =
    going_put c.args.self.now _ c.args.form c.args.size c.args.stream.now c.empty.new.bytes.items c.as_slice.result.now c.if-self.false
    (c.is_given.ensures.0 c.if-not-is_given.false) (search rules) c.if-self.false refl refl refl c.empty.ensures.items
    c.in_ok-put_entry.ensures c.as_slice.ensures.value c.update.ensures
