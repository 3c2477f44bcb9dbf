use Rattle.std.specs.Prelude.{[]}
use Rattle.gitprogram.proofs.uploading.converse.Goals as goal

pub drive-requires-clause-held : goal.drive-requires-clause-held
drive-requires-clause-held g c = ([], [], c.new-connection.ensures.holds c.begin.ensures)
