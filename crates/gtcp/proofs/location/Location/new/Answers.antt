use Rattle.std.proofs.Common.{◌≡◌, ◌++◌, List, ℕ, sym, ap, ◌∙◌}
use Rattle.std.specs.Prelude.{codes, string_bytes}
use Rattle.ghello.specs.Hello.{Hello}
use Rattle.gtcp.proofs.PlaceLemmas.{hello_taken, split_at_colon, taken}
use Rattle.gtcp.proofs.location.Location.new.Goals as goal

pub returns : goal.returns
returns g c =
    let address = c.args.address.now in
    let port = c.in_ok-host.port.now in
    let asked : Hello = record { path = c.as_bytes.result.now; host = c.as_bytes-2.result.now } in
    let hello = hello_taken asked c.new.result c.in_ok-hello.hello c.in_ok-hello.ensures.value c.new.ensures in (
      taken (λ text. string_bytes text ≡ address) c.from_str.result c.in_ok-address.address c.in_ok-address.ensures.value c.from_str.ensures.ok,
      record {
        port = port;
        is_port = c.is_port.ensures c.if-not-is_port.false;
        parts =
            split_at_colon address c.in_ok-host.host.now port c.in_ok-host.ensures.cases
            ∙ ap (λ (host : List ℕ). host ++ codes ":" ++ port) (sym (ap (λ (h : Hello). h.host) hello.0 ∙ c.as_bytes-2.ensures.value));
        path_is = ap (λ (h : Hello). h.path) hello.0 ∙ c.as_bytes.ensures.value;
        form = hello.1;
      },
    )
