use Rattle.std.proofs.Common.{map}
use Rattle.std.specs.Prelude.{string_bytes}
use Rattle.std.proofs.lemmas.List.Sorted.{IsPermutation-map, IsPermutation-trans}
use Rattle.gitobjects.proofs.listing.index_stems.Goals as goal

pub returns : goal.returns
returns g c =
    let listed = c.in_ok-stems.ensures in
    let before = c.in_ok-stems.stems.items in
    let after = c.sort_unstable.new.self.items in
    record {
      names = listed.names;
      rest = listed.rest;
      parts = listed.parts;
      found = listed.found;
      each = listed.each;
      all = IsPermutation-trans listed.found (map string_bytes before) (map string_bytes after) listed.all
          (IsPermutation-map string_bytes before after c.sort_unstable.ensures.permutation);
    }
