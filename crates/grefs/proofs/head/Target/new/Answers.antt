use Rattle.std.proofs.Common.{◌≢◌, subst}
use Rattle.gname.specs.Names.{IsRefName, head_name}
use Rattle.grefs.proofs.head.Target.new.Goals as goal

pub invariant_of-result : goal.invariant_of-result
invariant_of-result g c =
    let differs : c.args.name ≢ head_name = λ same. (let yes_head = c.is_head.ensures.1 same in cc) in
    let valid : IsRefName c.args.name = subst IsRefName c.name.view_is c.name.invariant in
    record { well_formed = valid; below = (c.names_are_clean.ensures c.args.name valid).below differs }
