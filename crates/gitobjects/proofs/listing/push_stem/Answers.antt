use Rattle.std.proofs.Common.{◌≡◌, [], ◌∷◌, ◌++◌, map, ap, subst, sym, ◌∙◌}
use Rattle.std.specs.Prelude.{string_bytes}
use Rattle.std.proofs.lemmas.List.{map-append}
use Rattle.gitobjects.specs.Listings.{AreStems}
use Rattle.gitobjects.proofs.ListingLemmas.{stems_more, stems_same}
use Rattle.gitobjects.proofs.listing.push_stem.Goals as goal

pub returns-in_ok-push-in-Some : goal.returns-in_ok-push-in-Some
returns-in_ok-push-in-Some g c = λ names is.
    let old = map string_bytes c.args.stems.now.items in
    let same : map string_bytes c.push.new.self.items ≡ old ++ c.in-Some.stem.now ∷ [] =
    ap (map string_bytes) c.in_ok-push-in-Some.ensures.items
    ∙ map-append string_bytes c.args.stems.now.items (c.in_ok-stem-in-Some.stem ∷ [])
    ∙ ap (λ s. old ++ s ∷ []) c.in_ok-stem-in-Some.ensures.ok in
    subst (AreStems (names ++ c.args.name.now ∷ [])) (sym same)
    (stems_more names c.args.name.now c.in-Some.stem.now old c.in-Some.ensures is)

pub returns-in-None : goal.returns-in-None
returns-in-None g c = λ names is.
    stems_same names c.args.name.now (map string_bytes c.args.stems.now.items) c.in-None.ensures is
