-- The start of a world.
use Rattle.std.proofs.Common.{◌≡◌, ◌∙◌, ℕ, ◌+◌, ◌<◌, ◌≤◌, List, [], length, take, drop, get_or, All, Some, sym, ap}
use Rattle.std.proofs.Common.{subst, arith, inl, inr}
use Rattle.std.specs.Prelude.{slice_get}
use Rattle.std.proofs.lemmas.List.{take_all}
use Rattle.std.proofs.lemmas.List.Elements.{All-nil, All-push}
use Rattle.std.proofs.lemmas.Option.{get_or_from_slice_get, slice_get_cases, slice_get_within}
use Rattle.gname.specs.Ids.{Id}
use Rattle.gobject.specs.declared.node.Entry.{Entry}
use Rattle.gobject.specs.Objects.{IdsDiffer, entry_of}
use Rattle.gdag.proofs.Growing.{all_standing, at_front, take_one}
use Rattle.gdag.proofs.Holding.{held_node}
use Rattle.gdag.specs.Laws.{AgreesWith, PositionsAreNodes}
use Rattle.gdag.specs.Reach.{Agree}
use Rattle.gsession.specs.Keeping.{KeepsGraph}
use Rattle.ganswer.specs.Servers.{Server}
use Rattle.gclientrepo.specs.Repos.{RepoState}
use Rattle.gworld.specs.steps.Bringing.{DisagreesAt, IsUnkeptAt}
use Rattle.gworld.specs.Sound.{IsSound, IsSoundKept, IsSoundRequest}
use Rattle.gworld.specs.KeepingWorlds.{IsFirstUnkept, KeptWorld}
use Rattle.gworld.specs.Starts.{CanStart, IsFirstDisagreement}
use Rattle.grequest.specs.Asked.{Asked}
use Rattle.gworld.specs.Worlds.{Kept, PackTools, WorldOf, WorldState, new_world}
use Rattle.std.proofs.lemmas.Bool.{false≢true}

module _ {A : Type 0} where
  stands : (g : List (Entry A)) (p : ℕ) (entry : Entry A) → slice_get g p ≡ Some entry → entry ≡ get_or g p entry
  stands g p entry at = sym (get_or_from_slice_get g p entry entry at)

  -- if the first `p` entries and the next have a property, the first `p + 1` entries have it
  pub one_more : (P : Entry A → Type 0) (g : List (Entry A)) (p : ℕ) → p < length g
      → ((entry : Entry A) → slice_get g p ≡ Some entry → P entry) → All P (take p g) → All P (take (p + 1) g)
  one_more P g p inside here before =
      elim (slice_get_cases g p).1 [
        | inl found ↦
            subst (All P) (sym (take_one g p found.0 inside (stands g p found.0 found.2)))
            (All-push P (take p g) found.0 before (here found.0 found.2))
        | inr past ↦ (let over = past.0 in absurd (omega (arith, over, inside)))
      ]

  -- if the client agrees with the server's first `p` entries, but not with the next, this is the first disagreement
  pub first_found : (g h : List (Entry A)) (p : ℕ) (id : List ℕ) → All (AgreesWith h) (take p g) → DisagreesAt g h p id
      → IsFirstDisagreement g h id
  first_found g h p id before found = record {
    front = take p g;
    entry = found.0;
    back = drop (p + 1) g;
    parts = at_front g p found.0 (slice_get_within g p found.0 found.1) (stands g p found.0 found.1);
    agree = before;
    disagrees = found.2;
    is = found.3;
  }

  -- if the client agrees with each entry of the server, the two graphs agree
  pub graphs_agree : PositionsAreNodes A → (g h : List (Entry A)) (p : ℕ) → length g ≤ p → IdsDiffer g
      → All (AgreesWith h) (take p g)
      → Agree g h
  graphs_agree law g h p past differ before a m n here there =
      let all : All (AgreesWith h) g = subst (All (AgreesWith h)) (take_all p g past) before in
      let place = ((law g differ).0 a m).0 here in
      sym (all_standing (AgreesWith h) g place.0 (entry_of a m) place.1 all n there)

  -- ---- the ids that an indexer keeps

  -- if the first `p` entries are kept, but not the next, this is the first entry that is not kept
  pub unkept_found : (keeps : Id → Type 0) (g : List (Entry A)) (p : ℕ) (id : Id)
      → All (λ (e : Entry A). keeps e.id) (take p g) → IsUnkeptAt keeps g p id → IsFirstUnkept keeps g id
  unkept_found keeps g p id before found = record {
    front = take p g;
    entry = found.0;
    back = drop (p + 1) g;
    parts = at_front g p found.0 (slice_get_within g p found.0 found.1) (stands g p found.0 found.1);
    kept = before;
    unkept = found.2;
    is = found.3;
  }

  -- if each entry of the graph is kept, the graph is kept
  pub graph_kept : PositionsAreNodes A → (keeps : Id → Type 0) (g : List (Entry A)) (p : ℕ) → length g ≤ p
      → IdsDiffer g → All (λ (e : Entry A). keeps e.id) (take p g) → KeepsGraph keeps g
  graph_kept law keeps g p past differ before id held =
      let all = subst (All (λ (e : Entry A). keeps e.id)) (take_all p g past) before in
      let node = held_node g id held in
      let place = ((law g differ).0 id node.0).0 node.1 in
      all_standing (λ (e : Entry A). keeps e.id) g place.0 (entry_of id node.0) place.1 all

  -- ---- new worlds

  pub begins_as : (server : Server A) (repo : RepoState A) (sent : List Asked) (kept : List Kept) → sent ≡ []
      → kept ≡ []
      → record (new_world server repo) { sent = sent; kept = kept } ≡ new_world server repo
  begins_as server repo sent kept none also =
      ap (λ (l : List Asked). record (new_world server repo) { sent = l; kept = kept }) none
      ∙ ap (λ (l : List Kept). record (new_world server repo) { kept = l }) also

  -- a new world is sound
  pub starts_soundly : (tools : PackTools A) (server : Server A) (repo : RepoState A) → CanStart server repo
      → IsSound tools (new_world server repo)
  starts_soundly tools server repo can = record {
    format = can.format;
    agree = λ honest. can.agree;
    sent = All-nil (IsSoundRequest (new_world server repo));
    kept = All-nil (IsSoundKept tools.packs (new_world server repo));
    session = tt;
    answered = λ wrong. absurd (false≢true wrong);
  }

abbrev pub made : {A K : Type 0} → K → WorldState A → WorldOf A K
made tools world = record { tools = tools; world = world }

pub made_same : {A K : Type 0} (tools : K) (w v : WorldState A) → w ≡ v → made tools w ≡ made tools v
made_same tools w v same = ap (made tools) same

abbrev pub made_kept : {A P I : Type 0} → P → I → WorldState A → KeptWorld A P I
made_kept packer indexer world = record { packer = packer; indexer = indexer; world = world }
