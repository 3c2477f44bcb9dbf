-- The parsing of the lines of an ls-refs reply (gitprotocol-v2(5), "ls-refs"). `LsManual` defines the grammar of the
-- lines. One space separates the parts of a line, and the parts are checked from left to right.
use Rattle.std.specs.Prelude.{Bool, List, [], ◌∷◌, ◌++◌, codes, if◌then◌else◌, Option, Some, None, is_none}
use Rattle.std.specs.Prelude.{Result, Ok, Err}
use Rattle.std.specs.List.{slice_split}
use Rattle.std.specs.Str.{bytes_eq}
use Rattle.gname.specs.Ids.{Id, id_text}
use Rattle.gname.specs.Names.{Name, head_name, name_fault}
use Rattle.gname.specs.declared.formats.Format.{Format}
use Rattle.gpkt.specs.Packets.{Bytes}
use Rattle.ggrammar.specs.Ids.{id_of_text}
use Rattle.ggrammar.specs.PeerErrors.{after_word}
use Rattle.ggrammar.specs.Texts.{is_space}
use Rattle.ggrammar.specs.declared.fault.Why.{Why}
use Rattle.ggrammar.specs.declared.fault.Why.TheVariants.{BadText, BadId, BadName}

-- the line of a ref in the reply
pub record RefLine : Type 0 where
  pub id : Id
  pub name : Name
  pub symref : Option Name
  pub peeled : Option Id

unfoldable pub parts_of : Bytes → List Bytes
parts_of text = slice_split is_space text

abbrev pub is_name : Bytes → Bool
is_name text = is_none (name_fault text)

-- ---- attributes

pub data Attribute : Type 0 where
  Symref : (target : Bytes) → Attribute
  Peeled : (id : Bytes) → Attribute
  UnknownAttribute : Attribute

abbrev pub peeled_or_unknown : Option Bytes → Attribute
peeled_or_unknown None = UnknownAttribute
peeled_or_unknown (Some id) = Peeled id

abbrev pub symref_or_else : Option Bytes → Attribute → Attribute
symref_or_else None other = other
symref_or_else (Some target) other = Symref target

-- the attribute that a part after the name encodes, with its unchecked value
unfoldable pub attribute_of : Bytes → Attribute
attribute_of part =
    symref_or_else (after_word (codes "symref-target:") part) (peeled_or_unknown (after_word (codes "peeled:") part))

-- the line with this symref target; a line that already has a target is refused, even if the new target is malformed
abbrev pub with_symref : RefLine → Bytes → Result RefLine Why
with_symref line target =
    if is_none line.symref
    then (if is_name target then Ok (record line { symref = Some target }) else Err BadName)
    else Err BadText

abbrev pub with_id : RefLine → Option Id → Result RefLine Why
with_id line None = Err BadId
with_id line (Some id) = Ok (record line { peeled = Some id })

abbrev pub with_peeled : Format → RefLine → Bytes → Result RefLine Why
with_peeled format line id = if is_none line.peeled then with_id line (id_of_text format id) else Err BadText

abbrev pub with_attribute : Format → RefLine → Attribute → Result RefLine Why
with_attribute format line (Symref target) = with_symref line target
with_attribute format line (Peeled id) = with_peeled format line id
with_attribute format line UnknownAttribute = Err BadText

-- ---- a line

abbrev pub with_attributes : Format → Result RefLine Why → List Bytes → Result RefLine Why
with_attributes format (Err why) parts = Err why
with_attributes format (Ok line) [] = Ok line
with_attributes format (Ok line) (part ∷ parts) =
    with_attributes format (with_attribute format line (attribute_of part)) parts

abbrev pub line_with_name : Format → Id → List Bytes → Result RefLine Why
line_with_name format id [] = Err BadText
line_with_name format id (name ∷ attributes) =
    if is_name name
    then with_attributes format (Ok (record { id = id; name = name; symref = None; peeled = None })) attributes
    else Err BadName

abbrev pub line_with_id : Format → Option Id → List Bytes → Result RefLine Why
line_with_id format None parts = Err BadId
line_with_id format (Some id) parts = line_with_name format id parts

abbrev pub line_of_parts : Format → List Bytes → Result RefLine Why
line_of_parts format [] = Err BadId
line_of_parts format (first ∷ parts) = line_with_id format (id_of_text format first) parts

-- the ref that a text describes, or the reason why the text is not the line of a ref
unfoldable pub line_of : Format → Bytes → Result RefLine Why
line_of format text = line_of_parts format (parts_of text)

-- ---- an unborn HEAD

abbrev pub unborn_target : Option Bytes → Result Name Why
unborn_target None = Err BadText
unborn_target (Some name) = if is_name name then Ok name else Err BadName

abbrev pub unborn_after_head : List Bytes → Result Name Why
unborn_after_head (part ∷ []) = unborn_target (after_word (codes "symref-target:") part)
unborn_after_head parts = Err BadText

-- the target in `unborn HEAD symref-target:<name>`, from the parts after `unborn`
abbrev pub unborn_of_parts : List Bytes → Result Name Why
unborn_of_parts [] = Err BadText
unborn_of_parts (head ∷ parts) = if bytes_eq head head_name then unborn_after_head parts else Err BadText

pub data FirstForm : Type 0 where
  UnbornForm : (target : Result Name Why) → FirstForm
  RefForm : FirstForm

abbrev pub first_of_parts : List Bytes → FirstForm
first_of_parts [] = RefForm
first_of_parts (first ∷ parts) = if bytes_eq first (codes "unborn") then UnbornForm (unborn_of_parts parts) else RefForm

-- the kind of a reply's first line: an unborn HEAD if the first part is `unborn`, otherwise a ref
unfoldable pub first_form : Bytes → FirstForm
first_form text = first_of_parts (parts_of text)

-- ---- the texts that are written

abbrev pub symref_text : Option Name → Bytes
symref_text None = []
symref_text (Some target) = codes " symref-target:" ++ target

abbrev pub peeled_text : Option Id → Bytes
peeled_text None = []
peeled_text (Some id) = codes " peeled:" ++ id_text id

unfoldable pub ref_text : RefLine → Bytes
ref_text line = id_text line.id ++ codes " " ++ line.name ++ symref_text line.symref ++ peeled_text line.peeled

unfoldable pub unborn_text : Name → Bytes
unborn_text target = codes "unborn HEAD symref-target:" ++ target
