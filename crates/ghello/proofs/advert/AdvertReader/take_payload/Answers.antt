use Rattle.std.proofs.Common.{sym, ap, ◌∙◌}
use Rattle.std.specs.Option.{option_copied}
use Rattle.ghello.proofs.AdvertLemmas.{error_is_taken, version_is_taken, capability_is_taken}
use Rattle.ghello.proofs.advert.AdvertReader.take_payload.Goals as goal

pub returns-in-Some : goal.returns-in-Some
returns-in-Some g c =
    rw c.new.ensures (error_is_taken _ _ c.args.payload.now c.in-Some.error.now c.args.self.now.has_version (sym c.in-Some.ensures))

pub returns-then-self : goal.returns-then-self
returns-then-self g c =
    capability_is_taken _ _ _ _ c.args.payload.now _ _ c.if-self.true (sym c.peer_error.ensures ∙ ap option_copied c.in_default.is)
    c.text_of-text.ensures c.take_capability.ensures

pub returns-else-self : goal.returns-else-self
returns-else-self g c =
    version_is_taken _ _ _ _ c.args.payload.now _ _ c.if-self.false (sym c.peer_error.ensures ∙ ap option_copied c.in_default.is)
    c.text_of-text.ensures c.take_version.ensures
