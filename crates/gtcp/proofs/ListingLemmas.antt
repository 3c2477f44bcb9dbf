-- The lines of listed refs, one line at a time.
use Rattle.std.proofs.Common.{◌≡◌, ℕ, ◌+◌, ◌≤◌, ◌<◌, List, [], ◌∷◌, ◌++◌, length, take, slice_get, Some, sym, ap, ◌∙◌}
use Rattle.std.proofs.lemmas.List.{flat_map_more, take_all, take_more}
use Rattle.std.proofs.lemmas.Option.{get_or_from_slice_get}
use Rattle.std.specs.List.{flat_map}
use Rattle.glsreply.specs.RefTexts.{RefLine}
use Rattle.gtcp.specs.Listing.{ref_line}

pub refs_more : (lines : List RefLine) (index : ℕ) (first old new : List ℕ) → index < length lines
    → old ≡ first ++ flat_map ref_line (take index lines)
    → ((line : RefLine) × (slice_get lines index ≡ Some line) × (new ≡ old ++ ref_line line))
    → new ≡ first ++ flat_map ref_line (take (index + 1) lines)
refs_more lines index first old new inside so_far put =
    let next : take (index + 1) lines ≡ take index lines ++ put.0 ∷ [] =
    take_more lines index put.0 inside
    ∙ ap (λ (line : RefLine). take index lines ++ line ∷ []) (get_or_from_slice_get lines index put.0 put.0 put.1) in
    put.2
    ∙ ap (λ (text : List ℕ). text ++ ref_line put.0) so_far
    ∙ flat_map_more ref_line first (take index lines) put.0
    ∙ sym (ap (λ (shown : List RefLine). first ++ flat_map ref_line shown) next)

pub refs_all : (lines : List RefLine) (index : ℕ) (first now : List ℕ) → length lines ≤ index
    → now ≡ first ++ flat_map ref_line (take index lines) → now ≡ first ++ flat_map ref_line lines
refs_all lines index first now past so_far =
    so_far ∙ ap (λ (shown : List RefLine). first ++ flat_map ref_line shown) (take_all index lines past)
