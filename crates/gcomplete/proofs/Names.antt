-- Ids that are hashes: what two stores have in common.
use Rattle.std.proofs.Common.{◌≡◌, ◌⊎◌, inl, inr, Some, sym, ap, ◌∙◌}
use Rattle.std.specs.Str.{bytes_eq}
use Rattle.std.proofs.lemmas.Bool.{cases_Bool, false≢true}
use Rattle.std.proofs.lemmas.Slice.Eq.{bytes_eq-Decides}
use Rattle.gname.specs.Ids.{Id}
use Rattle.gitobject.proofs.Words.{text_once}
use Rattle.gcomplete.specs.Stores.{GitObject, Holds, Store, object_of}
use Rattle.gcomplete.specs.Closed.{HasLink, IsComplete, Reaches, here, onward}
use Rattle.gcomplete.specs.Naming.{Collide, IsCollision, IsNameOf, IsNamed, text_of}
use Rattle.gcomplete.specs.Laws.{CompleteIsTheSame, NamesAreShared}
use Rattle.gcomplete.proofs.Parts.{held_object}

same_object : (o p : GitObject) → o.kind ≡ p.kind → o.body ≡ p.body → o ≡ p
same_object o p kinds bodies =
    let one : o ≡ object_of p.kind o.body = ap (λ k. object_of k o.body) kinds in
    let two : object_of p.kind o.body ≡ p = ap (object_of p.kind) bodies in
    one ∙ two

-- two objects with one id
pub same_or : (a : Id) (o p : GitObject) → IsNameOf a o → IsNameOf a p → (o ≡ p) ⊎ IsCollision (text_of o) (text_of p)
same_or a o p one two =
    elim (cases_Bool (bytes_eq (text_of o) (text_of p))) [
      | inl same ↦
          (let parts = text_once o.kind p.kind o.body p.body one.sized two.sized ((bytes_eq-Decides (text_of o) (text_of p)).0 same) in
          inl (same_object o p parts.0 parts.1))
      | inr differ ↦ inr (record {
        differ = λ e. false≢true (sym differ ∙ (bytes_eq-Decides (text_of o) (text_of p)).1 e);
        same = sym one.name ∙ two.name;
      })
    ]

pub names_shared : NamesAreShared
names_shared s t named others a o p left right = same_or a o p (named a o left) (others a p right)

module _ (s t : Store) (named : IsNamed s) (others : IsNamed t) where
  -- under an id that both hold stands one object
  pub same_here : (a : Id) (o p : GitObject) → s a ≡ Some o → t a ≡ Some p → (o ≡ p) ⊎ Collide s t
  same_here a o p mine theirs =
      elim (names_shared s t named others a o p mine theirs) [
        | inl same ↦ inl same
        | inr collision ↦ inr (record { id = a; object = o; other = p; mine = mine; theirs = theirs; collision = collision })
      ]

  stands_here : (a : Id) (p : GitObject) → Holds s a → t a ≡ Some p → (s a ≡ Some p) ⊎ Collide s t
  stands_here a p held theirs =
      let mine = held_object s a held in
      elim (same_here a mine.0 p mine.1 theirs) [
        | inl same ↦ inl (mine.1 ∙ ap (λ o. Some o) same)
        | inr collide ↦ inr collide
      ]

  same_all : (a b : Id) (p : GitObject) → IsComplete s a → Reaches t a b → t b ≡ Some p → (s b ≡ Some p) ⊎ Collide s t
  same_all a b p complete here theirs = stands_here a p (complete a here) theirs
  same_all a b p complete (onward link has rest) theirs =
      elim (stands_here a has.object (complete a here) has.held) [
        | inl same ↦
            (let mine : HasLink s a link = record { object = has.object; held = same; links = has.links; reads = has.reads; among = has.among } in
            same_all link.id b p (λ c r. complete c (onward link mine r)) rest theirs)
        | inr collide ↦ inr collide
      ]

pub complete_same : CompleteIsTheSame
complete_same s t named others a complete b o reaches theirs = same_all s t named others a b o complete reaches theirs
