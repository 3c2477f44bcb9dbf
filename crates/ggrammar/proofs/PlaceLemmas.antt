-- Places in a grammar and values in packets, for a list extended by one packet. The texts of packets.
use Rattle.std.proofs.Common.{◌≡◌, List, [], ◌∷◌, ◌++◌, Option, None, Some, refl, sym, ap, ◌∙◌, append_assoc, append-nil}
use Rattle.std.specs.List.{cons_option, filter_map}
use Rattle.std.specs.Option.{option_to_list}
use Rattle.std.proofs.lemmas.List.Elements.{filter_map-append}
use Rattle.gpkt.specs.Packets.{Packet}
use Rattle.gpkt.specs.Laws.{TextOfLine}
use Rattle.ggrammar.specs.Places.{place_after, collect}
use Rattle.ggrammar.specs.Texts.{text_in, TextsOfMore, TextIsRead}

pub place_after-push : {Place : Type 0} (next : Place → Packet → Place) (place : Place) (front : List Packet) (packet : Packet)
    → place_after next place (front ++ packet ∷ []) ≡ next (place_after next place front) packet
place_after-push next place [] packet = refl
place_after-push next place (first ∷ front) packet = place_after-push next (next place first) front packet

pub collect-push : {Place X : Type 0} (next : Place → Packet → Place) (give : Place → Packet → List X) (place : Place) (front : List Packet) (packet : Packet)
    → collect next give place (front ++ packet ∷ []) ≡ collect next give place front ++ give (place_after next place front) packet
collect-push next give place [] packet = append-nil (give place packet)
collect-push next give place (first ∷ front) packet =
    ap (λ xs. give place first ++ xs) (collect-push next give (next place first) front packet)
    ∙ sym (append_assoc (give place first) (collect next give (next place first) front) (give (place_after next (next place first) front) packet))

-- filtering a list extended by `x` appends the value `found` of `x`, if there is one
pub filter_map-push : {X Y : Type 0} (give : X → Option Y) (xs : List X) (x : X) (found : Option Y) → give x ≡ found
    → filter_map give (xs ++ x ∷ []) ≡ filter_map give xs ++ option_to_list found
filter_map-push give xs x None is = filter_map-append give xs (x ∷ []) ∙ ap (λ o. filter_map give xs ++ cons_option o []) is
filter_map-push give xs x (Some y) is =
    filter_map-append give xs (x ∷ []) ∙ ap (λ o. filter_map give xs ++ cons_option o []) is

pub texts_of_more : TextsOfMore
texts_of_more packets more = filter_map-append text_in packets more

pub text_is_read : TextOfLine → TextIsRead
text_is_read line_text line = ap Some (line_text line)
