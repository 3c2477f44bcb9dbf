-- A location, from the parts of its address.
use Rattle.std.proofs.Common.{◌≡◌, ℕ, List, [], ◌∷◌, ◌++◌, take, Some, Result, Ok, Err, sym, ap, subst, ◌∙◌, append_assoc, lit<}
use Rattle.std.proofs.lemmas.List.{take-append-drop}
use Rattle.std.proofs.lemmas.Option.{none-some, same_Some}
use Rattle.std.proofs.lemmas.Str.Pattern.{drop_at_char}
use Rattle.std.specs.Prelude.{codes, IfOk}
use Rattle.std.specs.Result.{result_ok}
use Rattle.ggrammar.specs.declared.fault.MessageFault.{MessageFault}
use Rattle.ghello.specs.Hello.{Hello, IsHello, MakesHello}
use Rattle.std.specs.Str.Pattern.{RFindsChar, SplitsAroundMatch}

-- if `P` holds for the value of a successful result, it holds for the value that `result_ok` returns
pub taken : {X E : Type 0} (P : X → Type 0) (made : Result X E) (x : X) → Some x ≡ result_ok made → IfOk made P → P x
taken P (Ok y) x same holds = subst P (sym (same_Some x y same)) holds
taken P (Err fault) x same holds = absurd (none-some x (sym same))

pub hello_taken : (wanted : Hello) (made : Result Hello MessageFault) (hello : Hello) → Some hello ≡ result_ok made
    → MakesHello wanted made → (hello ≡ wanted) × IsHello hello
hello_taken wanted (Ok made) hello same makes =
    subst (λ (h : Hello). (h ≡ wanted) × IsHello h) (sym (same_Some hello made same)) makes
hello_taken wanted (Err fault) hello same makes = absurd (none-some hello (sym same))

-- a text that is split at its last colon is the front, the colon and the back
pub split_at_colon : (text front back : List ℕ) → SplitsAroundMatch (RFindsChar 58) text front back
    → text ≡ front ++ codes ":" ++ back
split_at_colon text front back (i, j, found, before, after, order, until, past) =
    sym (take-append-drop i text)
    ∙ ap (λ (rest : List ℕ). take i text ++ rest) (drop_at_char 58 text i j found.1 (lit< tt))
    ∙ ap (λ (rest : List ℕ). take i text ++ 58 ∷ rest) (sym after)
    ∙ ap (λ (start : List ℕ). start ++ 58 ∷ back) (sym before)
    ∙ sym (append_assoc front (58 ∷ []) back)
