-- The ref updates that a session requests (`Ask`), and the objects that it wants. The session matches each refspec, in
-- order, against the refs of the reply, in order. If several updates would be for the same ref, the session requests
-- only the first. Git's manuals specify neither the order of matching nor this rule.
use Rattle.std.specs.Prelude.{Bool, List, [], ◌∷◌, map, filter, All, if◌then◌else◌, Option, None}
use Rattle.std.specs.List.{flat_map, list_any}
use Rattle.std.specs.Str.{bytes_eq}
use Rattle.gname.specs.Names.{Name, IsRefName, head_name}
use Rattle.gname.specs.Ids.{Id}
use Rattle.glsreply.specs.RefTexts.{RefLine}
use Rattle.gobject.specs.declared.node.Entry.{Entry}
use Rattle.gdag.specs.Levels.{distinct_of}
use Rattle.gdag.specs.Reach.{IsConnected}
use Rattle.gdag.specs.Selecting.{Selects}
use Rattle.grefs.specs.Refspecs.{Refspec, destination_of, matches}
use Rattle.gclientrepo.specs.declared.ask.Ask.{Ask}
use Rattle.gclientrepo.specs.Asks.{asked_ids, with_ask}

-- the ref update that a refspec requests for a line of the reply: the destination ref, and the line's id
abbrev pub ask_of : {A : Type 0} → Refspec → RefLine → Ask A
ask_of spec line = record { name = destination_of spec line.name; id = line.id; forced = spec.forced }

-- whether a refspec matches the name of a line
abbrev pub line_matches : Refspec → RefLine → Bool
line_matches spec line = matches spec line.name

-- the ref updates that a refspec requests, in the order of the lines
abbrev pub asks_by : {A : Type 0} → Refspec → List RefLine → List (Ask A)
asks_by spec lines = map (ask_of spec) (filter (line_matches spec) lines)

-- the ref updates that all refspecs request, in the order of the refspecs
abbrev pub asks_by_all : {A : Type 0} → List Refspec → List RefLine → List (Ask A)
asks_by_all specs lines = flat_map (λ spec. asks_by spec lines) specs

-- the first list of requested updates, followed by each update of the second list whose ref has no update yet
abbrev pub with_asks : {A : Type 0} → List (Ask A) → List (Ask A) → List (Ask A)
with_asks asks [] = asks
with_asks asks (ask ∷ more) = with_asks (with_ask asks ask) more

-- the ref updates that the refspecs request for the lines; if several updates are for the same ref, only the first is
-- kept
abbrev pub asked_of : {A : Type 0} → List Refspec → List RefLine → List (Ask A)
asked_of specs lines = with_asks [] (asks_by_all specs lines)

-- each requested update is for a valid ref name; a reply that leads to an invalid ref name is rejected
abbrev pub AreNamed : {A : Type 0} → List (Ask A) → Type 0
AreNamed asks = All (λ ask. IsRefName ask.name) asks

-- the wants: the distinct requested ids that are not connected, in the order of the requested updates
abbrev pub AreWants : {A : Type 0} → List (Entry A) → List (Ask A) → List Id → Type 0
AreWants g asks wants = Selects (λ a. ¬ (IsConnected g a)) (distinct_of (asked_ids asks)) wants

-- whether a refspec fetches HEAD
abbrev pub takes_head : List Refspec → Bool
takes_head specs = list_any (λ spec. bytes_eq spec.source head_name) specs

-- the target of an unborn HEAD, if a refspec fetches HEAD
abbrev pub unborn_told : List Refspec → Option Name → Option Name
unborn_told specs target = if takes_head specs then target else None
