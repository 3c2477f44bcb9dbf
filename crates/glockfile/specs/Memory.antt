-- A file in memory.
use Rattle.glockfile.specs.Storing.{Texts}
use Rattle.glockfile.specs.declared.storage.Lockfile.{Lockfile}

-- the recorded texts of the file, and the state of the run's own lockfile
pub record Held : Type 0 where
  pub texts : Texts
  pub lockfile : Lockfile
