use Rattle.std.proofs.Common.{subst}
use Rattle.std.specs.Net.Grammar.{IsIpv6Text, Parses}
use Rattle.gitwords.proofs.UrlLemmas.{bracketed}
use Rattle.gitwords.proofs.url.is_bracketed.Goals as goal

pub returns-in-Some : goal.returns-in-Some
returns-in-Some c =
    bracketed c.args.text.now c.in-Some.inner.now c.in-Some.ensures c.parse_ascii.result c.is_ok.result
    (subst (λ l. Parses IsIpv6Text l c.parse_ascii.result) c.as_bytes.ensures.value c.parse_ascii.ensures) c.is_ok.ensures.value
