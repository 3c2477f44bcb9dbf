-- Folders of packs in memory.
use Rattle.gitrepository.specs.Installing.{Arrival, Folder, IndexComes, PackComes}
use Rattle.gitrepository.specs.declared.folder.PackFileStage.{PackFileStage}
use Rattle.gitrepository.specs.declared.memory_folder.PackFile.{PackFile}
use Rattle.gitrepository.specs.declared.memory_folder.PackFile.TheVariants.{Index, Pack}

-- the arrival of this file in a folder
abbrev pub file_of : {A : Type 0} → PackFile A → Arrival
file_of (Pack bytes) = PackComes bytes.items
file_of (Index bytes) = IndexComes bytes.items

-- the files of a folder, and the progress of writing the current pack
pub record Held : Type 0 where
  pub folder : Folder
  pub stage : PackFileStage
