-- Texts whose parts are each followed by the same byte.
use Rattle.std.proofs.Common.{◌≡◌, ℕ, List, [], ◌∷◌, ◌++◌, ap, sym, ◌∙◌, append_assoc}
use Rattle.gitobjects.specs.Parts.{ended_by}

-- a text stays the same if the part at the start of its rest becomes the last of its parts
pub ended_by-push : (byte : ℕ) (parts : List (List ℕ)) (part rest : List ℕ) → ended_by byte (parts ++ part ∷ []) ++ rest ≡ ended_by byte parts ++ (part ++ byte ∷ rest)
ended_by-push byte [] part rest = append_assoc part (byte ∷ []) rest
ended_by-push byte (p ∷ parts) part rest =
    append_assoc p (byte ∷ ended_by byte (parts ++ part ∷ [])) rest
    ∙ ap (λ l. p ++ byte ∷ l) (ended_by-push byte parts part rest)
    ∙ sym (append_assoc p (byte ∷ ended_by byte parts) (part ++ byte ∷ rest))

-- if the rest of a text begins with a part and the byte, this part can be added to the parts of the text
pub ended_by-more : (byte : ℕ) (text : List ℕ) (parts : List (List ℕ)) (part rest after : List ℕ) → text ≡ ended_by byte parts ++ rest → rest ≡ part ++ byte ∷ after → text ≡ ended_by byte (parts ++ part ∷ []) ++ after
ended_by-more byte text parts part rest after is begins =
    is ∙ ap (λ l. ended_by byte parts ++ l) begins ∙ sym (ended_by-push byte parts part after)
