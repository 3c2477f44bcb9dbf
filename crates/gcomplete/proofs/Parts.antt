-- Objects and types under ids, in one store and in two.
use Rattle.std.proofs.Common.{◌≡◌, ◌⊎◌, inl, inr, Bool, true, false, cond, List, [], ◌∷◌, Option, None, Some, IsSome, is_some, refl, sym, ap, subst, ◌∙◌}
use Rattle.std.specs.Map.{lookup}
use Rattle.std.specs.Option.{option_map, option_or}
use Rattle.std.specs.Str.{bytes_eq}
use Rattle.std.proofs.lemmas.Bool.{cases_Bool, false≢true}
use Rattle.std.proofs.lemmas.Option.{none-some, same_Some}
use Rattle.std.proofs.lemmas.Slice.Eq.{bytes_eq-Decides}
use Rattle.gname.specs.Ids.{Id}
use Rattle.gitobject.specs.declared.types.ObjectType.{ObjectType}
use Rattle.gcomplete.specs.Stores.{GitObject, Holds, Store, joined, kind_in, kind_of}

-- ---- options

-- what is there, is something
pub something : {X : Type 0} (f : Option X) → IsSome f → (x : X) × (f ≡ Some x)
something None is = absurd (false≢true is)
something (Some x) is = (x, refl)

pub is_something : {X : Type 0} (f : Option X) (x : X) → f ≡ Some x → IsSome f
is_something f x is = rw is refl

pub or_nothing : {X : Type 0} (f : Option X) → option_or f None ≡ f
or_nothing None = refl
or_nothing (Some x) = refl

-- ---- objects and their types

pub kind_held : (s : Store) (a : Id) (o : GitObject) → s a ≡ Some o → kind_in s a ≡ Some o.kind
kind_held s a o is = ap (option_map kind_of) is

pub kind_absent : (s : Store) (a : Id) → s a ≡ None → kind_in s a ≡ None
kind_absent s a none = ap (option_map kind_of) none

pub held_kind : (s : Store) (a : Id) (kind : ObjectType) → kind_in s a ≡ Some kind → (o : GitObject) × (s a ≡ Some o) × (o.kind ≡ kind)
held_kind s a kind is = by (s a) refl
  where
    by : (f : Option GitObject) → s a ≡ f → (o : GitObject) × (s a ≡ Some o) × (o.kind ≡ kind)
    by None none = absurd (none-some kind (sym (kind_absent s a none) ∙ is))
    by (Some o) some = (o, some, same_Some o.kind kind (sym (kind_held s a o some) ∙ is))

-- no type, no object
pub absent_kind : (s : Store) (a : Id) → kind_in s a ≡ None → s a ≡ None
absent_kind s a is = by (s a) refl
  where
    by : (f : Option GitObject) → s a ≡ f → s a ≡ None
    by None none = none
    by (Some o) some = absurd (none-some o.kind (sym is ∙ kind_held s a o some))

pub held_object : (s : Store) (a : Id) → Holds s a → (o : GitObject) × (s a ≡ Some o)
held_object s a held = something (s a) held

pub object_held : (s : Store) (a : Id) (o : GitObject) → s a ≡ Some o → Holds s a
object_held s a o is = is_something (s a) o is

-- ---- two stores

pub joined_first : (s t : Store) (a : Id) (o : GitObject) → s a ≡ Some o → joined s t a ≡ Some o
joined_first s t a o is = ap (λ f. option_or f (t a)) is

pub joined_second : (s t : Store) (a : Id) → s a ≡ None → joined s t a ≡ t a
joined_second s t a none = ap (λ f. option_or f (t a)) none

-- ---- each key of a list

-- each key has the property, or there is an exception
pub each_key_or : {X : Type 0} (P : Id → Type 0) (C : Type 0) (xs : List (Id × X)) → ((a : Id) → IsSome (lookup (bytes_eq a) xs) → P a ⊎ C) → ((a : Id) → IsSome (lookup (bytes_eq a) xs) → P a) ⊎ C
each_key_or P C [] each = inl (λ a some. absurd (false≢true some))
each_key_or {X} P C (pair ∷ xs) each = both (each pair.0 first) (each_key_or P C xs later)
  where
    first : IsSome (lookup (bytes_eq pair.0) (pair ∷ xs))
    first = ap (λ b. is_some (cond b (Some pair.1) (lookup (bytes_eq pair.0) xs))) ((bytes_eq-Decides pair.0 pair.0).1 refl)

    later : (a : Id) → IsSome (lookup (bytes_eq a) xs) → P a ⊎ C
    later a some = each a (more (bytes_eq a pair.0))
      where
        more : (b : Bool) → IsSome (cond b (Some pair.1) (lookup (bytes_eq a) xs))
        more true = refl
        more false = some

    both : P pair.0 ⊎ C → ((a : Id) → IsSome (lookup (bytes_eq a) xs) → P a) ⊎ C → ((a : Id) → IsSome (lookup (bytes_eq a) (pair ∷ xs)) → P a) ⊎ C
    both (inr c) rest = inr c
    both (inl here) (inr c) = inr c
    both (inl here) (inl rest) = inl (λ a some.
        elim (cases_Bool (bytes_eq a pair.0)) [
          | inl same ↦ subst P (sym ((bytes_eq-Decides a pair.0).0 same)) here
          | inr other ↦ rest a (sym (ap (λ b. is_some (cond b (Some pair.1) (lookup (bytes_eq a) xs))) other) ∙ some)
        ])
