-- The lines of a listing, as git-ls-remote(1) prints them.
use Rattle.std.specs.Prelude.{ℕ, ◌==◌, ◌||◌, Bool, length, List, [], ◌∷◌, ◌++◌, codes, if◌then◌else◌, nat_eq, Option, None, Some}
use Rattle.std.specs.List.{flat_map, list_any, starts_with}
use Rattle.gname.specs.Ids.{Id, id_text}
use Rattle.gpkt.specs.Packets.{Bytes}
use Rattle.glsreply.specs.RefTexts.{RefLine}

-- a line with an id, a tab and a name
abbrev pub id_line : Id → Bytes → Bytes
id_line id name = id_text id ++ 9 ∷ (name ++ 10 ∷ [])

-- the line of the peeled object of a tag, or the empty text if the ref has no peeled object
abbrev pub peeled_line : Bytes → Option Id → Bytes
peeled_line name None = []
peeled_line name (Some id) = id_line id (name ++ codes "^{}")

-- the line of a ref, followed by the line of its peeled object
abbrev pub ref_lines : RefLine → Bytes
ref_lines line = id_line line.id (line.name ++ []) ++ peeled_line line.name line.peeled

-- whether a name begins with one of the prefixes, or there are no prefixes
abbrev pub is_listed : List Bytes → Bytes → Bool
is_listed prefixes name = length prefixes == 0 || list_any (starts_with nat_eq name) prefixes

abbrev pub listed_lines : List Bytes → RefLine → Bytes
listed_lines prefixes line = if is_listed prefixes line.name then ref_lines line else []

-- the text of a listing: the lines of the refs that match the prefixes
abbrev pub listing : List Bytes → List RefLine → Bytes
listing prefixes lines = flat_map (listed_lines prefixes) lines
