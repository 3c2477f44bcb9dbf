use Rattle.std.proofs.Common.{sym}
use Rattle.ghello.proofs.HelloLemmas.{hello_is_said}
use Rattle.ghello.proofs.hello.HelloReader.take_payload.Goals as goal

pub keep-requires : goal.keep-requires
keep-requires g c = (hello_is_said c.args.payload.now _ (sym c.in-Some.ensures)).form
