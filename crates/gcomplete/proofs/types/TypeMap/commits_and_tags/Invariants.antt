use Rattle.std.proofs.Common.{◌≡◌, ◌≤◌, take, length}
use Rattle.std.specs.List.{filter}
use Rattle.gcomplete.specs.Stores.{is_commit_or_tag}
use Rattle.gcomplete.proofs.types.TypeMap.commits_and_tags.Given as goal

abbrev pub invariant-loop-place : goal.invariant-loop-place
invariant-loop-place g l = (l.count ≡ length (filter is_commit_or_tag (take l.place l.self))) × (l.count ≤ l.place)
