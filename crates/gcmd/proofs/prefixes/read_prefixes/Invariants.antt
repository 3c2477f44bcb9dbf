use Rattle.std.proofs.Common.{◌≡◌, take, map}
use Rattle.std.specs.Prelude.{string_bytes, All}
use Rattle.gname.specs.Names.{IsPrefix}
use Rattle.gcmd.proofs.prefixes.read_prefixes.Given as goal

abbrev pub invariant-loop-word : goal.invariant-loop-word
invariant-loop-word g l = record {
  same : l.prefixes.items ≡ map string_bytes (take l.word-index l.words);
  prefixes : All IsPrefix (map string_bytes (take l.word-index l.words));
}
