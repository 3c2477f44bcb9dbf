-- Received packs (gitformat-pack(5)).
use Rattle.std.specs.Prelude.{ℕ, List, All}
use Rattle.gobject.specs.declared.node.Entry.{Entry}
use Rattle.gitpack.specs.Packs.{IsFramed}
use Rattle.gitmemory.specs.Entries.{IsOfObject}

-- An indexed pack: its trailer is the SHA-1 of all preceding bytes. Each returned entry describes a commit or a tag.
pub record IsIndexed {A : Type 0} (pack : List ℕ) (entries : List (Entry A)) : Type 0 where
  pub count : ℕ
  pub trailer : List ℕ
  pub framed : IsFramed count trailer pack
  pub each : All IsOfObject entries
