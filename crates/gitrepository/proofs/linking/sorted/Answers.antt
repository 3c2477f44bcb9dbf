use Rattle.std.proofs.lemmas.List.Sorted.{All-permutation, Contains-permutation}
use Rattle.gitrepository.specs.steps.Arriving.{IsReadObject}
use Rattle.gitrepository.proofs.linking.sorted.Goals as goal

pub returns-clause-read : goal.returns-clause-read
returns-clause-read g c needs all =
    All-permutation (IsReadObject needs) c.args.objects.items c.sort_unstable_by.new.self.items c.sort_unstable_by.ensures.permutation all

pub returns-clause-keeps : goal.returns-clause-keeps
returns-clause-keeps g c object among =
    Contains-permutation c.args.objects.items c.sort_unstable_by.new.self.items object c.sort_unstable_by.ensures.permutation among
