use Rattle.std.proofs.Common.{◌≡◌, ◌++◌, ◌∷◌, List, [], false, sym, ap, ◌∙◌, subst}
use Rattle.gclientrepo.specs.Asks.{NamesDiffer, asks_of, is_asked}
use Rattle.gclientrepo.specs.declared.ask.Ask.{Ask}
use Rattle.gclientrepo.proofs.AskLemmas.{differ_push, pushed_asks, with_ask_new}
use Rattle.gclientrepo.proofs.asks.Asks.add.Goals as goal

pub invariant_of-self-2 : goal.invariant_of-self-2
invariant_of-self-2 g c =
    let old : List (Ask g.row.A.Denot) = asks_of c.self.inside.aims.entries in
    let absent : is_asked old c.args.ask.name ≡ false = ap (λ (asks : List (Ask g.row.A.Denot)). is_asked asks c.args.ask.name) c.self.view_is ∙ sym c.is_asked.ensures ∙ c.if-is_asked.false in
    let is = pushed_asks g.row.A.Denot c.self.inside.aims c.insert.new.self.entries c.args.ask.name _ absent c.in_ok-insert.ensures.entries in
    subst NamesDiffer (sym is) (differ_push g.row.A.Denot old c.args.ask c.self.invariant absent)

pub returns-clause-ok : goal.returns-clause-ok
returns-clause-ok g c =
    let old : List (Ask g.row.A.Denot) = asks_of c.self.inside.aims.entries in
    let new_name : is_asked c.args.self.now c.args.ask.name ≡ false = sym c.is_asked.ensures ∙ c.if-is_asked.false in
    let absent : is_asked old c.args.ask.name ≡ false = ap (λ (asks : List (Ask g.row.A.Denot)). is_asked asks c.args.ask.name) c.self.view_is ∙ new_name in
    pushed_asks g.row.A.Denot c.self.inside.aims c.insert.new.self.entries c.args.ask.name _ absent c.in_ok-insert.ensures.entries
    ∙ ap (λ (asks : List (Ask g.row.A.Denot)). asks ++ c.args.ask ∷ []) c.self.view_is
    ∙ sym (with_ask_new g.row.A.Denot c.args.self.now c.args.ask new_name)
