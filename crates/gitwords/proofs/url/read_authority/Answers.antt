use Rattle.gitwords.proofs.UrlLemmas.{bad_port, no_colon, no_host_before, no_port_after}
use Rattle.gitwords.proofs.url.read_authority.Goals as goal

pub returns-in_default : goal.returns-in_default
returns-in_default c = no_colon c.args.text.now c.in_default.ensures c.if-is_host.ensures

pub returns-then-not-is_host : goal.returns-then-not-is_host
returns-then-not-is_host c =
    no_host_before c.args.text.now c.in-Some.host.now c.in-Some.digits.now c.in-Some.ensures.0 c.in-Some.ensures.1 c.if-is_host.ensures c.if-not-is_host.ensures

pub returns-in-None : goal.returns-in-None
returns-in-None c = (
  no_port_after c.args.text.now c.in-Some.host.now c.in-Some.digits.now c.in-Some.ensures.0 c.in-Some.ensures.1 c.if-is_host.ensures c.in-None.ensures,
  bad_port c.args.text.now c.in-Some.host.now c.in-Some.digits.now c.in-Some.ensures.0 c.if-not-is_host.ensures c.in-None.ensures,
)
