-- Consequences of the definition of a scenario's text.
use Rattle.std.specs.List.{AllZip}
use Rattle.std.specs.Prelude.{◌≡◌, ⊤, ℕ, List}
use Rattle.gscenario.specs.ScenarioText.{IsScenario, IsWrongLine}
use Rattle.gscenario.specs.declared.event.Event.{Event}
use Rattle.gscenario.specs.declared.event.Event.TheVariants as event

-- a text with a malformed line does not encode any list of events
abbrev pub WrongIsNone : Type 0 → Type 0
WrongIsNone A =
    (text : List ℕ) (number : ℕ) (events : List (Event A)) → IsWrongLine A text number → ¬ (IsScenario text events)

-- the number of a text's first malformed line is unique
abbrev pub WrongLinesHaveOnePlace : Type 0 → Type 0
WrongLinesHaveOnePlace A = (text : List ℕ) (a b : ℕ) → IsWrongLine A text a → IsWrongLine A text b → a ≡ b

-- the two events are of the same kind, with equal arguments
abbrev pub IsSame : {A : Type 0} → Event A → Event A → Type 0
IsSame (event.Begin specs) (event.Begin others) = specs.items ≡ others.items
IsSame event.Ask event.Ask = ⊤
IsSame (event.Serve request) (event.Serve other) = request ≡ other
IsSame (event.Deliver reply count) (event.Deliver other most) = (reply ≡ other) × (count ≡ most)
IsSame (event.Forge bytes) (event.Forge others) = bytes.items ≡ others.items
IsSame (event.StrangeRequest bytes) (event.StrangeRequest others) = bytes.items ≡ others.items
IsSame event.Settle event.Settle = ⊤
IsSame event.RestartClient event.RestartClient = ⊤
IsSame event.RestartServer event.RestartServer = ⊤
IsSame (event.ServerAdd entry) (event.ServerAdd other) = entry ≡ other
IsSame (event.ServerRef name id) (event.ServerRef other at) = (name ≡ other) × (id ≡ at)
IsSame (event.ClientAdd entry) (event.ClientAdd other) = entry ≡ other
IsSame (event.ClientRef name id) (event.ClientRef other at) = (name ≡ other) × (id ≡ at)
IsSame _ _ = ⊥

-- no text encodes two different lists of events
abbrev pub TextsHaveOneReading : Type 0 → Type 0
TextsHaveOneReading A =
    (text : List ℕ) (a b : List (Event A)) → IsScenario text a → IsScenario text b → AllZip IsSame a b
