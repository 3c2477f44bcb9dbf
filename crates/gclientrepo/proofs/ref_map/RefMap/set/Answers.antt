use Rattle.std.proofs.Common.{◌≡◌, ◌≢◌, ◌⊎◌, ◌<◌, ◌+◌, ℕ, List, All, None, Option, inl, length, ap, ◌∙◌, subst, sym, refl}
use Rattle.gname.specs.Names.{IsRefName, head_name}
use Rattle.grefs.specs.RefLists.{CannotSet, IsBelowRefs, RefList, SetsRef, max_refs, ref_at}
use Rattle.gclientrepo.proofs.RefMapLemmas.{CountsSet, few_set, is_set, more_where, names_set, room_for}
use Rattle.gclientrepo.proofs.ref_map.RefMap.set.Goals as goal

pub invariant_of-self-2 : goal.invariant_of-self-2
invariant_of-self-2 g c =
    let old = c.self.inside.refs.entries in
    let new = c.insert.new.self.entries in
    let can : ¬ (CannotSet old c.args.name) =
    subst (λ (refs : RefList). ¬ (CannotSet refs c.args.name)) (sym c.self.view_is) c.requires in
    let differs : c.args.name ≢ head_name = λ same. can (inl same) in
    let valid : IsRefName c.args.name = c.laws.ensures.name in
    let below : IsBelowRefs c.args.name =
    record { well_formed = valid; below = (c.names_are_clean.ensures c.args.name valid).below differs } in
    let room : (length old < max_refs) ⊎ (ref_at old c.args.name ≢ None) =
    room_for old c.args.name (ref_at old c.args.name) refl can c.self.invariant.few in
    let count : CountsSet old c.args.name new = c.in_ok-insert.ensures.len ∙ ap (λ (o : Option (List ℕ)). length old + more_where o) c.in_ok-insert.ensures.old in
    record {
      names = subst (All (λ (ref : List ℕ × List ℕ). IsBelowRefs ref.0)) (sym c.in_ok-insert.ensures.entries) (names_set old c.args.name c.args.id c.self.invariant.names below);
      ascending = c.insert.ensures.ordered;
      few = few_set old new c.args.name room c.self.invariant.few count;
    }

pub returns : goal.returns
returns g c =
    let old = c.self.inside.refs.entries in
    let new = c.insert.new.self.entries in
    let count : CountsSet old c.args.name new = c.in_ok-insert.ensures.len ∙ ap (λ (o : Option (List ℕ)). length old + more_where o) c.in_ok-insert.ensures.old in
    subst (λ (refs : RefList). SetsRef refs new c.args.name c.args.id) c.self.view_is
    (is_set old new c.args.name c.args.id c.in_ok-insert.ensures.entries c.in_ok-insert.ensures.updates.1 c.in_ok-insert.ensures.updates.2 count)
