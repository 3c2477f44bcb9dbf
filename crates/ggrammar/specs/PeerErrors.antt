-- Errors that a peer reports in place of a packet (gitprotocol-pack(5), "error-line").
use Rattle.std.specs.Prelude.{codes, drop, length, if◌then◌else◌, nat_eq, Option, Some, None}
use Rattle.std.specs.List.{starts_with}
use Rattle.gpkt.specs.Packets.{Bytes}
use Rattle.ggrammar.specs.Faults.{kept_text}
use Rattle.ggrammar.specs.Grammar.{Verdict, Refused}
use Rattle.ggrammar.specs.declared.fault.Why.TheVariants.{RemoteErr}

-- the rest of the text after a word, if the text starts with the word
unfoldable pub after_word : Bytes → Bytes → Option Bytes
after_word word text = if starts_with nat_eq text word then Some (drop (length word) text) else None

-- the error that a payload reports: the text after `ERR `
abbrev pub peer_error : Bytes → Option Bytes
peer_error payload = after_word (codes "ERR ") payload

abbrev pub unless_error : Option Bytes → Verdict → Verdict
unless_error (Some said) verdict = Refused (RemoteErr (kept_text said))
unless_error None verdict = verdict

-- a rejection if the payload reports an error, otherwise the given verdict
abbrev pub judge_unless_error : (Bytes → Verdict) → Bytes → Verdict
judge_unless_error table payload = unless_error (peer_error payload) (table payload)
