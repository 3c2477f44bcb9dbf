-- Definitions for parsing packed-refs.
use Rattle.gitrefs.specs.PackedRefs.{PackedLine}
use Rattle.gitrefs.specs.declared.packed.Line.{Line}

-- the parsed line that a Rust value of type `Line` describes
abbrev pub line_at : Line → PackedLine
line_at line = record { name = line.name.now; id = line.id; peeled = line.peeled }
