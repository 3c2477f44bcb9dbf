-- The report of a fetch: a line for each requested ref update, in the order of the requested updates.
use Rattle.std.specs.Prelude.{List, [], ◌∷◌, ◌++◌, codes, Option, None, Some}
use Rattle.gname.specs.Ids.{Id, id_text}
use Rattle.gname.specs.Names.{Name}
use Rattle.gpkt.specs.Packets.{Bytes}
use Rattle.gclientrepo.specs.declared.ask.Ask.{Ask}
use Rattle.gclientrepo.specs.declared.ask.RefUpdate.{RefUpdate}
use Rattle.gclientrepo.specs.declared.ask.RefUpdate.TheVariants.{Moved, NotForward, Same}
use Rattle.gfetch.specs.declared.fetched.Fetched.{Fetched}

-- the line for the update of a ref to this id
abbrev pub update_text : (name : Name) (id : Id) → RefUpdate → Bytes
update_text name id Moved = codes "moved " ++ (name ++ (codes " " ++ (id_text id ++ codes "\n")))
update_text name id Same = codes "same " ++ (name ++ codes "\n")
update_text name id NotForward = codes "notforward " ++ (name ++ codes "\n")

-- the line for a requested ref update
abbrev pub update_line : {A : Type 0} → Ask A → RefUpdate → Bytes
update_line ask update = update_text ask.name ask.id update

-- the lines for all requested ref updates
abbrev pub update_lines : {A : Type 0} → List (Ask A) → List RefUpdate → Bytes
update_lines (ask ∷ asks) (update ∷ updates) = update_line ask update ++ update_lines asks updates
update_lines _ _ = []

-- the line for an unborn HEAD of the server, with the branch that it points at; nothing if HEAD is not unborn
abbrev pub unborn_line : Option Name → Bytes
unborn_line None = []
unborn_line (Some name) = codes "unborn " ++ (name ++ codes "\n")

-- the whole report of a fetch
abbrev pub fetch_report : {A : Type 0} → Fetched A → Bytes
fetch_report fetched =
    update_lines fetched.settled.asks fetched.settled.updates.items ++ unborn_line fetched.unborn
