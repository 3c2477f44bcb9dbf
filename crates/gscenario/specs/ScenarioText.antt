-- The text of a scenario: one line for each event. Each line ends with a line feed. Single spaces separate the words of
-- a line. No program outside this repository uses the format.
use Rattle.std.specs.List.{AllZip}
use Rattle.std.specs.Prelude.{◌≡◌, ◌≢◌, ◌⊎◌, ℕ, ◌+◌, ◌-◌, ◌^◌, ◌<◌, ◌==◌, if◌then◌else◌, List, [], ◌∷◌, ◌++◌, length}
use Rattle.std.specs.Prelude.{codes, decimal, Ok}
use Rattle.hex.specs.Hex.{decode_of}
use Rattle.gname.specs.Ids.{Id, IsIdText}
use Rattle.gname.specs.Names.{Name, IsRefName}
use Rattle.gobject.specs.PlainPackText.{IsInLine, ids_of, letter}
use Rattle.gobject.specs.declared.node.Entry.{Entry}
use Rattle.grefs.specs.Refspecs.{IsSpec, Refspec}
use Rattle.gscenario.specs.declared.command.EventWord.{EventWord}
use Rattle.gscenario.specs.declared.event.Event.{Event}
use Rattle.gscenario.specs.declared.fault.ScenarioFault.{ScenarioFault}
use Rattle.gscenario.specs.declared.fault.ScenarioFault.TheVariants as fault
use Rattle.gscenario.specs.declared.event.Event.TheVariants as event
use Rattle.gscenario.specs.declared.command.EventWord.TheVariants as command

-- ---- words

-- the words, with the byte prepended to the first word
abbrev pub with_byte : ℕ → List (List ℕ) → List (List ℕ)
with_byte byte [] = (byte ∷ []) ∷ []
with_byte byte (word ∷ words) = (byte ∷ word) ∷ words

-- the words of a line, split at each space
abbrev pub words_of : List ℕ → List (List ℕ)
words_of [] = [] ∷ []
words_of (byte ∷ text) = if byte == 32 then [] ∷ words_of text else with_byte byte (words_of text)

-- ---- the parts of a line

-- the first word of an event's line
abbrev pub command_text : EventWord → List ℕ
command_text command.Begin = codes "begin"
command_text command.Ask = codes "ask"
command_text command.Serve = codes "serve"
command_text command.Deliver = codes "deliver"
command_text command.Forge = codes "forge"
command_text command.StrangeRequest = codes "stranger"
command_text command.Settle = codes "settle"
command_text command.RestartClient = codes "restart-client"
command_text command.RestartServer = codes "restart-server"
command_text command.ServerAdd = codes "server-add"
command_text command.ServerRef = codes "server-ref"
command_text command.ClientAdd = codes "client-add"
command_text command.ClientRef = codes "client-ref"

abbrev pub command_of : {A : Type 0} → Event A → EventWord
command_of (event.Begin specs) = command.Begin
command_of event.Ask = command.Ask
command_of (event.Serve request) = command.Serve
command_of (event.Deliver reply count) = command.Deliver
command_of (event.Forge bytes) = command.Forge
command_of (event.StrangeRequest bytes) = command.StrangeRequest
command_of event.Settle = command.Settle
command_of event.RestartClient = command.RestartClient
command_of event.RestartServer = command.RestartServer
command_of (event.ServerAdd entry) = command.ServerAdd
command_of (event.ServerRef name id) = command.ServerRef
command_of (event.ClientAdd entry) = command.ClientAdd
command_of (event.ClientRef name id) = command.ClientRef

-- a number below 2 ^ 63, in decimal digits without leading zeros
abbrev pub IsNumber : List ℕ → ℕ → Type 0
IsNumber text number = (text ≡ decimal number) × (number < 2 ^ 63)

-- a count of bytes: a number, or `all` for the largest count
abbrev pub IsCount : List ℕ → ℕ → Type 0
IsCount text count = IsNumber text count ⊎ ((text ≡ codes "all") × (count ≡ 2 ^ 64 - 1))

-- the text of a list of bytes: two hexadecimal digits for each byte, in either case, or `-` for an empty list
abbrev pub AreBytes : List ℕ → List ℕ → Type 0
AreBytes text bytes = ((text ≡ codes "-") × (bytes ≡ [])) ⊎ ((text ≢ []) × (decode_of text ≡ Ok bytes))

-- there is exactly one word, and the word is a number
abbrev pub IsOneNumber : List (List ℕ) → ℕ → Type 0
IsOneNumber words number = (text : List ℕ) × (words ≡ text ∷ []) × IsNumber text number

-- there are exactly two words: a number and a count of bytes
abbrev pub AreNumberAndCount : List (List ℕ) → ℕ → ℕ → Type 0
AreNumberAndCount words number count =
    (text bytes : List ℕ) × (words ≡ text ∷ bytes ∷ []) × IsNumber text number × IsCount bytes count

-- there is exactly one word, and the word encodes the bytes
abbrev pub AreOneBytes : List (List ℕ) → List ℕ → Type 0
AreOneBytes words bytes = (text : List ℕ) × (words ≡ text ∷ []) × AreBytes text bytes

-- there is at least one word, and each word encodes a refspec
abbrev pub AreSpecs : List (List ℕ) → List Refspec → Type 0
AreSpecs words specs = (words ≢ []) × AllZip IsSpec words specs

-- the words of an object: the letter of its kind, its id and its parents' ids, with digits in either case
abbrev pub IsEntry : {A : Type 0} → List (List ℕ) → Entry A → Type 0
IsEntry words entry =
    (ids : List (List ℕ)) × (words ≡ (letter entry.node.kind ∷ []) ∷ ids) × AllZip IsIdText ids (ids_of entry)

-- the words are an id, with digits in either case, and the name of a ref
abbrev pub IsRef : List (List ℕ) → Name → Id → Type 0
IsRef words name id = (digits : List ℕ) × (words ≡ digits ∷ name ∷ []) × IsIdText digits id × IsRefName name

-- the words are the arguments on the event's line
abbrev pub AreArguments : {A : Type 0} → Event A → List (List ℕ) → Type 0
AreArguments (event.Begin specs) words = AreSpecs words specs.items
AreArguments (event.Serve request) words = IsOneNumber words request
AreArguments (event.Deliver reply count) words = AreNumberAndCount words reply count
AreArguments (event.Forge bytes) words = AreOneBytes words bytes.items
AreArguments (event.StrangeRequest bytes) words = AreOneBytes words bytes.items
AreArguments (event.ServerAdd entry) words = IsEntry words entry
AreArguments (event.ServerRef name id) words = IsRef words name id
AreArguments (event.ClientAdd entry) words = IsEntry words entry
AreArguments (event.ClientRef name id) words = IsRef words name id
AreArguments event words = words ≡ []

-- ---- lines

-- the line encodes the event
abbrev pub IsLineOf : {A : Type 0} → List ℕ → Event A → Type 0
IsLineOf line event =
    (arguments : List (List ℕ)) × (words_of line ≡ command_text (command_of event) ∷ arguments)
    × AreArguments event arguments

-- the line does not encode any event
abbrev pub IsNoLine : Type 0 → List ℕ → Type 0
IsNoLine A line = (event : Event A) → ¬ (IsLineOf line event)

-- the first word of the line is a command
abbrev pub BeginsWithCommand : List ℕ → Type 0
BeginsWithCommand line =
    (command : EventWord) × (arguments : List (List ℕ)) × (words_of line ≡ command_text command ∷ arguments)

-- the text encodes the events
abbrev pub IsScenario : {A : Type 0} → List ℕ → List (Event A) → Type 0
IsScenario text [] = text ≡ []
IsScenario text (event ∷ events) =
    (line rest : List ℕ) × (text ≡ line ++ 10 ∷ rest) × IsInLine line × IsLineOf line event × IsScenario rest events

-- the first line of the text does not encode any event, or has no line feed
abbrev pub BeginsWrong : Type 0 → List ℕ → Type 0
BeginsWrong A text =
    ((line rest : List ℕ) × (text ≡ line ++ 10 ∷ rest) × IsInLine line × IsNoLine A line)
    ⊎ ((text ≢ []) × IsInLine text)

-- the number of the first malformed line of the text, counted from 1
pub record IsWrongLine (A : Type 0) (text : List ℕ) (number : ℕ) : Type 0 where
  pub front : List ℕ
  pub rest : List ℕ
  pub events : List (Event A)
  pub parts : text ≡ front ++ rest
  pub before : IsScenario front events
  pub wrong : BeginsWrong A rest
  pub at : number ≡ length events + 1

-- after zero or more valid lines, the text has a line that begins with a command, so the event of that line can need
-- memory
pub record TakesMemory (A : Type 0) (text : List ℕ) : Type 0 where
  pub front : List ℕ
  pub line : List ℕ
  pub rest : List ℕ
  pub events : List (Event A)
  pub parts : text ≡ front ++ (line ++ 10 ∷ rest)
  pub before : IsScenario front events
  pub inside : IsInLine line
  pub begins : BeginsWithCommand line

-- a reason to reject a text: a malformed line, or lack of memory for the event of a line
abbrev pub Refuses : Type 0 → List ℕ → ScenarioFault → Type 0
Refuses A text (fault.Scenario number) = IsWrongLine A text number
Refuses A text fault.Memory = TakesMemory A text
