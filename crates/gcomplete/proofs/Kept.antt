-- Ids that stay kept.
use Rattle.std.proofs.Common.{List}
use Rattle.std.proofs.lemmas.List.Elements.{All-weaker}
use Rattle.gname.specs.Ids.{Id}
use Rattle.gcomplete.specs.Stores.{Types, kind_at}
use Rattle.gcomplete.specs.Batches.{KeepsTypes}
use Rattle.gcomplete.specs.Judging.{AreKept, IsKept}
use Rattle.gcomplete.proofs.Parts.{is_something, something}

pub keeps_all : (types : Types) → KeepsTypes types types
keeps_all types a kind kept = kept

pub keeps_more : (old mid new : Types) → KeepsTypes old mid → KeepsTypes mid new → KeepsTypes old new
keeps_more old mid new one two a kind kept = two a kind (one a kind kept)

pub kept_still : (old new : Types) → KeepsTypes old new → (a : Id) → IsKept old a → IsKept new a
kept_still old new keeps a kept =
    let kind = something (kind_at old a) kept in
    is_something (kind_at new a) kind.0 (keeps a kind.0 kind.1)

pub all_kept_still : (old new : Types) → KeepsTypes old new → (ids : List Id) → AreKept old ids → AreKept new ids
all_kept_still old new keeps ids kept = All-weaker (IsKept old) (IsKept new) (kept_still old new keeps) ids kept
