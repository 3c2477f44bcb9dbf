-- The text of a listing, which grows by the lines of one ref at a time.
use Rattle.std.proofs.Common.{◌≡◌, ℕ, ◌+◌, ◌≤◌, ◌<◌, List, [], ◌∷◌, ◌++◌, length, take, slice_get, Some, sym, ap, ◌∙◌}
use Rattle.std.proofs.lemmas.List.{flat_map_more, take_all, take_more}
use Rattle.std.proofs.lemmas.Option.{get_or_from_slice_get}
use Rattle.std.specs.List.{flat_map}
use Rattle.gpkt.specs.Packets.{Bytes}
use Rattle.glsreply.specs.RefTexts.{RefLine}
use Rattle.gitprogram.specs.Listing.{listed_lines, listing}

pub refs_more : (prefixes : List Bytes) (lines : List RefLine) (place : ℕ) (old new : List ℕ) → place < length lines
    → old ≡ listing prefixes (take place lines)
    → ((line : RefLine) × (slice_get lines place ≡ Some line) × (new ≡ old ++ listed_lines prefixes line))
    → new ≡ listing prefixes (take (place + 1) lines)
refs_more prefixes lines place old new inside so_far put =
    let next : take (place + 1) lines ≡ take place lines ++ put.0 ∷ [] =
    take_more lines place put.0 inside
    ∙ ap (λ (line : RefLine). take place lines ++ line ∷ []) (get_or_from_slice_get lines place put.0 put.0 put.1) in
    put.2
    ∙ ap (λ (text : List ℕ). text ++ listed_lines prefixes put.0) so_far
    ∙ flat_map_more (listed_lines prefixes) [] (take place lines) put.0
    ∙ sym (ap (λ (shown : List RefLine). listing prefixes shown) next)

pub refs_all : (prefixes : List Bytes) (lines : List RefLine) (place : ℕ) (now : List ℕ) → length lines ≤ place
    → now ≡ listing prefixes (take place lines) → now ≡ listing prefixes lines
refs_all prefixes lines place now past so_far =
    so_far ∙ ap (λ (shown : List RefLine). listing prefixes shown) (take_all place lines past)
