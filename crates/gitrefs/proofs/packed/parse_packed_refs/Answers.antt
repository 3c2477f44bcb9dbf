use Rattle.std.proofs.Common.{List}
use Rattle.gitrefs.specs.PackedRefs.{HasPackedLines, IsPackedRefsFile, PackedLine}
use Rattle.gitrefs.proofs.LooseLemmas.{fault_of}
use Rattle.gitrefs.proofs.PackedLemmas.{lines_of, no_header}
use Rattle.gitrefs.proofs.packed.parse_packed_refs.Goals as goal

pub returns-in_default : goal.returns-in_default
returns-in_default g c = no_header c.args.text.now c.in_default.ensures

pub returns-in-Ok : goal.returns-in-Ok
returns-in-Ok g c =
    let has = c.in-Ok.ensures in
    (c.in-Some.lines.now, has.0, c.in-Some.ensures, has.1, has.2)

pub returns-in-Err : goal.returns-in-Err
returns-in-Err g c =
    let text = c.args.text.now in let rest = c.in-Some.lines.now in
    fault_of ((lines : List PackedLine) × HasPackedLines rest lines) (IsPackedRefsFile text)
    (lines_of text rest c.in-Some.ensures) c.in-Err.fault c.in-Err.ensures
