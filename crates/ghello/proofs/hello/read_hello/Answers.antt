use Rattle.std.proofs.Common.{◌≡◌, Err, ◌∙◌, ap}
use Rattle.std.proofs.lemmas.Result.{err_from_is_err_and}
use Rattle.ghello.proofs.HelloLemmas.{hello_is_read, some_is_read, refused_at_once}
use Rattle.ghello.proofs.hello.read_hello.Goals as goal

pub returns-in_err-read_message-clause-first : goal.returns-in_err-read_message-clause-first
returns-in_err-read_message-clause-first g c =
    let p = err_from_is_err_and c.from_residual.result c.from_residual.ensures.1 in
    let same : c.from_residual.result ≡ Err c.in_err-read_message.field-0.0 = p.1 ∙ ap (λ f. Err f) p.2 in
    rw same (refused_at_once (λ reader. reader.hello) _ _ _ _ c.in_err-read_message.ensures.read)

pub unreachable-requires : goal.unreachable-requires
unreachable-requires g c = some_is_read (λ reader. reader.hello) _ _ _ c.in_ok-read_message.ensures.read c.in-None.is

pub returns-clause-read : goal.returns-clause-read
returns-clause-read g c = hello_is_read (λ reader. reader.hello) _ _ _ c.in-Some.hello c.in_ok-read_message.ensures.read c.in-Some.is
