-- The stored bytes are the first bytes of the text.
use Rattle.std.proofs.Common.{◌≡◌, ◌++◌, ℕ, List, length, take, ap, ◌∙◌, min, arith}
use Rattle.std.proofs.lemmas.List.{take_min}
use Rattle.ggrammar.specs.Faults.{max_peer_text}
use Rattle.ggrammar.proofs.fault.PeerText.new.Goals as goal

pub returns : goal.returns
returns c =
    let text = c.text_of-text.result.now in
    let least : c.min.result ≡ min max_peer_text (length text) = omega arith in
    c.add.ensures.text ∙ (ap (λ (xs : List ℕ). xs ++ take c.min.result text) c.new-kept.ensures ∙ (ap (λ (n : ℕ). take n text) least ∙ (take_min max_peer_text text ∙ ap (λ (xs : List ℕ). take max_peer_text xs) c.text_of-text.ensures)))
