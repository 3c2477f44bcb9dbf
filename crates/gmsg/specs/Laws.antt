-- The definitions for the laws of all messages.
use Rattle.gpkt.specs.Packets.{Bytes}
use Rattle.ggrammar.specs.Grammar.{Judge, IsPrefixFree}
use Rattle.ggrammar.specs.MessageBytes.{BeginsWithMessage, SpellingsPrefixFree}

-- no message of a kind is a proper prefix of another message of the same kind, as packets or as encoded bytes
pub record NoneBeginsAnother (judge : Judge) : Type 0 where
  pub packets : IsPrefixFree judge
  pub spellings : SpellingsPrefixFree judge

-- no byte string begins with a message of one kind and also with a message of the other kind
abbrev pub NoneBeginsAsBoth : Judge → Judge → Type 0
NoneBeginsAsBoth one other = (bytes : Bytes) → BeginsWithMessage one bytes → BeginsWithMessage other bytes → ⊥
