-- The objects that an indexer keeps when the graph gains the entries of a pack.
use Rattle.std.proofs.Common.{◌≡◌, List, All, inl, inr, refl}
use Rattle.std.proofs.lemmas.List.Elements.{All-contains}
use Rattle.gname.specs.Ids.{Id}
use Rattle.gobject.specs.declared.node.Entry.{Entry}
use Rattle.gobject.specs.Objects.{entry_of}
use Rattle.gdag.specs.Insert.{AddsOnly}
use Rattle.gdag.proofs.Holding.{held_node}
use Rattle.gsession.specs.Keeping.{KeepsGraph, KeepsOn}

-- neither the indexer nor the graph changed
pub keeps_none : {A : Type 0} (keeps : Id → Type 0) (g : List (Entry A)) → KeepsOn keeps keeps g g
keeps_none keeps g = record { stays = λ id is. is; gained = λ id held. inl held }

-- one change after the other
pub keeps_then : {A : Type 0} (first second third : Id → Type 0) (old mid new : List (Entry A))
    → KeepsOn first second old mid → KeepsOn second third mid new → KeepsOn first third old new
keeps_then first second third old mid new one two = record {
  stays = λ id is. two.stays id (one.stays id is);
  gained = λ id held.
      elim (two.gained id held) [
        | inl was ↦
            elim (one.gained id was) [
              | inl begun ↦ inl begun
              | inr kept ↦ inr (two.stays id kept)
            ]
        | inr kept ↦ inr kept
      ];
}

-- the indexer kept more, and the graph did not change
pub keeps_stays : {A : Type 0} (before after : Id → Type 0) (old new : List (Entry A)) → ((id : Id) → before id → after id)
    → new ≡ old → KeepsOn before after old new
keeps_stays before after old new stays same = record {
  stays = stays;
  gained = λ id held. inl (rw same at held);
}

-- the indexer kept the entries of a list, and the graph gained at most these entries
pub keeps_more : {A : Type 0} (before after : Id → Type 0) (old entries new : List (Entry A))
    → ((id : Id) → before id → after id) → All (λ (e : Entry A). after e.id) entries → AddsOnly old entries new
    → KeepsOn before after old new
keeps_more {A} before after old entries new stays each only = record {
  stays = stays;
  gained = λ id held.
      let n = held_node new id held in
      elim (only id n.0 n.1) [
        | inl was ↦ inl (rw was refl)
        | inr listed ↦ inr (All-contains (λ (e : Entry A). after e.id) entries (entry_of id n.0) each listed)
      ];
}

-- if each id of the old graph was kept, then each id of the new graph is kept
pub keeps_graph : {A : Type 0} (before after : Id → Type 0) (old new : List (Entry A)) → KeepsOn before after old new
    → KeepsGraph before old → KeepsGraph after new
keeps_graph before after old new on kept id held =
    elim (on.gained id held) [
      | inl was ↦ on.stays id (kept id was)
      | inr is ↦ is
    ]
