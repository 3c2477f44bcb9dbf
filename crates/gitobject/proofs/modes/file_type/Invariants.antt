use Rattle.std.proofs.Common.{◌≡◌, ◌%◌, take}
use Rattle.std.specs.Str.Parse.{AllDigits, digits_value}
use Rattle.gitobject.proofs.modes.file_type.Given as goal

abbrev pub invariant-loop-byte : goal.invariant-loop-byte
invariant-loop-byte l = record {
  octal : AllDigits 8 (take l.byte-index l.mode);
  bits : l.number ≡ digits_value 8 (take l.byte-index l.mode) % 65536;
}
