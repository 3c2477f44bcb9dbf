use Rattle.std.proofs.Common.{◌≡◌, ◌++◌, map, take}
use Rattle.gitobject.specs.Trees.{link_of}
use Rattle.gitobject.specs.declared.types.ObjectType.TheVariants.{Commit}
use Rattle.gitobject.proofs.links.push_commits.Given as goal

abbrev pub invariant-loop-id : goal.invariant-loop-id
invariant-loop-id g l = l.links.items ≡ l.initial.links.items ++ map (link_of Commit) (take l.id-index l.ids)
