-- A packer that loses nothing still loses nothing if its packs have a maximum length.
use Rattle.std.specs.Prelude.{ℕ, List}
use Rattle.gobject.specs.Packs.{Indexes, IndexFails, LosesNothing, MayPack, PackFails, Packs}
use Rattle.gobject.specs.declared.node.Entry.{Entry}

pub bounded : {A : Type 0} {packs : Packs A} {fails : PackFails A} {indexes : Indexes A} {index_fails : IndexFails}
    {image : List (Entry A) → List ℕ} → LosesNothing packs fails indexes index_fails image
    → LosesNothing (MayPack packs) fails indexes index_fails image
bounded law = record {
  packs_image = λ list pack entries may. law.packs_image list pack entries may.packed;
  too_large = law.too_large;
  packs_each = law.packs_each;
  reads_image = law.reads_image;
  reads_each = law.reads_each;
}
