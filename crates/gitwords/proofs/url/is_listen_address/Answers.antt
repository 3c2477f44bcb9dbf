use Rattle.gitwords.proofs.UrlLemmas.{listens, no_listen_colon, no_listen_host}
use Rattle.gitwords.proofs.url.is_listen_address.Goals as goal

pub returns-then-is_host : goal.returns-then-is_host
returns-then-is_host c =
    listens c.args.text.now c.in-Some.host.now c.in-Some.digits.now c.in-Some.ensures.0 c.in-Some.ensures.1 c.is_port_or_zero.result
    c.if-is_host.ensures c.is_port_or_zero.ensures

pub returns-else-is_host : goal.returns-else-is_host
returns-else-is_host c =
    rw c.if-is_host.false (no_listen_host c.args.text.now c.in-Some.host.now c.in-Some.digits.now c.in-Some.ensures.0 c.in-Some.ensures.1 c.if-is_host.ensures)

pub returns-in-None : goal.returns-in-None
returns-in-None c = no_listen_colon c.args.text.now c.in-None.ensures
