-- The arguments of a line: all its words but the first.
use Rattle.std.proofs.Common.{◌≡◌, ◌∙◌, ℕ, List, [], ◌∷◌, ◌++◌, Option, None, Some, Result, Ok, Err, MatchOption}
use Rattle.std.proofs.Common.{MatchResult, sym, ap, subst, append_assoc}
use Rattle.std.specs.List.{AllZip}
use Rattle.std.specs.Prelude.{⊤, Vec}
use Rattle.gobject.specs.declared.node.Entry.{Entry}
use Rattle.grefs.specs.Refspecs.{IsSpec, Reads, Refspec}
use Rattle.grefs.specs.declared.refspec.fault.SpecFault.{SpecFault}
use Rattle.grefs.specs.declared.refspec.fault.SpecFault.TheVariants.{BadSpec}
use Rattle.gscenario.specs.ScenarioText.{AreBytes, AreNumberAndCount, AreOneBytes, IsCount, IsEntry, IsOneNumber, IsRef}
use Rattle.gscenario.specs.steps.Reading.{NoArguments}
use Rattle.gscenario.specs.declared.event.Event.TheVariants as event
use Rattle.gscenario.specs.declared.command.EventWord.TheVariants as command

-- ---- words that are not the arguments of a command

module _ {A : Type 0} (words : List (List ℕ)) where
  pub no_serve : ((number : ℕ) → IsOneNumber words number → ⊥) → NoArguments A command.Serve words
  no_serve none (event.Serve number) of are = none number are
  no_serve none _ of are = cc of

  pub no_deliver : ((number count : ℕ) → AreNumberAndCount words number count → ⊥) → NoArguments A command.Deliver words
  no_deliver none (event.Deliver number count) of are = none number count are
  no_deliver none _ of are = cc of

  pub no_forge : ((bytes : List ℕ) → AreOneBytes words bytes → ⊥) → NoArguments A command.Forge words
  no_forge none (event.Forge bytes) of are = none bytes.items are
  no_forge none _ of are = cc of

  pub no_stranger : ((bytes : List ℕ) → AreOneBytes words bytes → ⊥) → NoArguments A command.StrangeRequest words
  no_stranger none (event.StrangeRequest bytes) of are = none bytes.items are
  no_stranger none _ of are = cc of

  pub no_server_add : ((entry : Entry A) → IsEntry words entry → ⊥) → NoArguments A command.ServerAdd words
  no_server_add none (event.ServerAdd entry) of are = none entry are
  no_server_add none _ of are = cc of

  pub no_client_add : ((entry : Entry A) → IsEntry words entry → ⊥) → NoArguments A command.ClientAdd words
  no_client_add none (event.ClientAdd entry) of are = none entry are
  no_client_add none _ of are = cc of

  pub no_server_ref : ((name id : List ℕ) → IsRef words name id → ⊥) → NoArguments A command.ServerRef words
  no_server_ref none (event.ServerRef name id) of are = none name id are
  no_server_ref none _ of are = cc of

  pub no_client_ref : ((name id : List ℕ) → IsRef words name id → ⊥) → NoArguments A command.ClientRef words
  no_client_ref none (event.ClientRef name id) of are = none name id are
  no_client_ref none _ of are = cc of

-- a text that is refused with `BadSpec` does not encode a refspec
pub bad_spec : (text : List ℕ) (fault : SpecFault) → Reads (IsSpec text) (Err fault) → fault ≡ BadSpec
    → (spec : Refspec) → ¬ (IsSpec text spec)
bad_spec text fault reads is = subst (λ (f : SpecFault). Reads (IsSpec text) (Err f)) is reads

-- ---- single words

pub first_same : (x y : List ℕ) (xs ys words : List (List ℕ)) → words ≡ x ∷ xs → words ≡ y ∷ ys → (x ≡ y) × (xs ≡ ys)
first_same x y xs ys words here there = ((cc), (cc))

pub one_same : (x y : List ℕ) (words : List (List ℕ)) → words ≡ x ∷ [] → words ≡ y ∷ [] → x ≡ y
one_same x y words here there = cc

pub two_same : (x y u v : List ℕ) (words : List (List ℕ)) → words ≡ x ∷ y ∷ [] → words ≡ u ∷ v ∷ [] → (x ≡ u) × (y ≡ v)
two_same x y u v words here there = ((cc), (cc))

pub bytes_reads : {Z E : Type 0} (words : List (List ℕ)) (text : List ℕ) (r : Result (Option (Vec ℕ Z)) E)
    → words ≡ text ∷ []
    → MatchResult r
    (λ (found : Option (Vec ℕ Z)).
    MatchOption found ((bytes : List ℕ) → AreBytes text bytes → ⊥) (λ (v : Vec ℕ Z). AreBytes text v.items))
    (λ (e : E). ⊤)
    → MatchResult r
    (λ (found : Option (Vec ℕ Z)).
    MatchOption found ((bytes : List ℕ) → AreOneBytes words bytes → ⊥) (λ (v : Vec ℕ Z). AreOneBytes words v.items))
    (λ (e : E). ⊤)
bytes_reads words text (Ok None) at none =
    λ bytes is. none bytes (subst (λ (t : List ℕ). AreBytes t bytes) (one_same is.0 text words is.1 at) is.2)
bytes_reads words text (Ok (Some v)) at is = (text, at, is)
bytes_reads words text (Err e) at is = tt

pub no_second_count : (words : List (List ℕ)) (text bytes : List ℕ) → words ≡ text ∷ bytes ∷ []
    → ((count : ℕ) → IsCount bytes count → ⊥)
    → (number count : ℕ) → ¬ (AreNumberAndCount words number count)
no_second_count words text bytes at none number count are =
    none count (subst (λ (t : List ℕ). IsCount t count) (two_same are.0 are.1 text bytes words are.2 at).1 are.4)

-- ---- words that are read one after another

-- the words before `left` were read, and encode the values of `read`
pub record ReadsEach {Y : Type 0} (R : List ℕ → Y → Type 0) (words left : List (List ℕ)) (read : List Y) : Type 0 where
  pub done : List (List ℕ)
  pub parts : words ≡ done ++ left
  pub each : AllZip R done read

module _ {Y : Type 0} (R : List ℕ → Y → Type 0) where
  zip_push : (xs : List (List ℕ)) (ys : List Y) (x : List ℕ) (y : Y) → AllZip R xs ys → R x y
      → AllZip R (xs ++ x ∷ []) (ys ++ y ∷ [])
  zip_push [] [] x y all is = (is, tt)
  zip_push [] (v ∷ ys) x y all is = absurd all
  zip_push (u ∷ xs) [] x y all is = absurd all
  zip_push (u ∷ xs) (v ∷ ys) x y all is = (all.0, zip_push xs ys x y all.1 is)

  zip_at : (xs : List (List ℕ)) (x : List ℕ) (more : List (List ℕ)) (ys : List Y) → AllZip R (xs ++ x ∷ more) ys
      → (y : Y) × R x y
  zip_at [] x more [] all = absurd all
  zip_at [] x more (y ∷ ys) all = (y, all.0)
  zip_at (u ∷ xs) x more [] all = absurd all
  zip_at (u ∷ xs) x more (y ∷ ys) all = zip_at xs x more ys all.1

  pub reads_more : (words left more : List (List ℕ)) (read now : List Y) (word : List ℕ) (y : Y)
      → ReadsEach R words left read
      → left ≡ word ∷ more → R word y → now ≡ read ++ y ∷ [] → ReadsEach R words more now
  reads_more words left more read now word y reads at is grown = record {
    done = reads.done ++ word ∷ [];
    parts =
        reads.parts ∙ ap (λ (ws : List (List ℕ)). reads.done ++ ws) at ∙ sym (append_assoc reads.done (word ∷ []) more);
    each = subst (AllZip R (reads.done ++ word ∷ [])) (sym grown) (zip_push reads.done read word y reads.each is);
  }

  pub reads_wrong : (words left more : List (List ℕ)) (read : List Y) (word : List ℕ) → ReadsEach R words left read
      → left ≡ word ∷ more
      → ((y : Y) → ¬ (R word y)) → (ys : List Y) → ¬ (AllZip R words ys)
  reads_wrong words left more read word reads at none ys all =
      let here = zip_at reads.done word more ys
      (subst (λ (ws : List (List ℕ)). AllZip R ws ys) (reads.parts ∙ ap (λ (ws : List (List ℕ)). reads.done ++ ws) at)
      all) in
      none here.0 here.1
