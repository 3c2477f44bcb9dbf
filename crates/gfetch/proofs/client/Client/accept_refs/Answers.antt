use Rattle.std.proofs.Common.{refl, sym, subst}
use Rattle.gname.specs.declared.formats.Format.{Format}
use Rattle.ggrammar.specs.Grammar.{IsWhole}
use Rattle.glsreply.specs.LsReplies as ls
use Rattle.gfetch.proofs.SideLemmas.{refs_accepted, refs_ready, refs_rejected}
use Rattle.gfetch.proofs.client.Client.accept_refs.Goals as goal

pub returns-in-None-clause-accepts : goal.returns-in-None-clause-accepts
returns-in-None-clause-accepts g c =
    let ends = c.self.inside.session.ends in
    rw (← c.self.view_is) (λ asked lines waits held whole.
    absurd (c.in-None.ensures.read ends lines (subst (λ (f : Format). IsWhole (ls.judge f ends) lines) (sym c.format.ensures) whole) held))

pub returns-in-Ok-clause-accepts : goal.returns-in-Ok-clause-accepts
returns-in-Ok-clause-accepts g c =
    let ends = c.self.inside.session.ends in
    let reply = c.in-Some.reply in
    rw (← c.self.view_is) (λ asked lines waits held whole.
    refs_accepted _ _ reply c.in-Ok.taken lines
    (subst (λ (f : Format). ls.Says f ends lines reply) c.format.ensures
    (c.in-Some.ensures.read ends lines (subst (λ (f : Format). IsWhole (ls.judge f ends) lines) (sym c.format.ensures) whole) held))
    c.in-Ok.ensures refl refl)

pub returns-in-Ok-clause-ready : goal.returns-in-Ok-clause-ready
returns-in-Ok-clause-ready g c =
    rw (← c.self.view_is)
    (refs_ready c.self.inside.session c.accept_refs.new.self c.self.inside.repo.graph.entries c.in-Some.reply c.in-Ok.taken c.in-Ok.ensures)

pub returns-clause-accepts : goal.returns-clause-accepts
returns-clause-accepts g c =
    let ends = c.self.inside.session.ends in
    let reply = c.in-Some.reply in
    rw (← c.self.view_is) (λ asked lines waits held whole.
    refs_rejected _ _ asked reply lines c.in-Err.fault waits
    (subst (λ (f : Format). ls.Says f ends lines reply) c.format.ensures
    (c.in-Some.ensures.read ends lines (subst (λ (f : Format). IsWhole (ls.judge f ends) lines) (sym c.format.ensures) whole) held))
    c.in-Err.ensures refl refl)
