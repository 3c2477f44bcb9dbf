-- The requests that can be written.
use Rattle.std.specs.Prelude.{◌≤◌, length, All, Option, IfSome, IsTrue}
use Rattle.gname.specs.Ids.{IsIdOf}
use Rattle.gname.specs.Names.{IsPrefix}
use Rattle.gname.specs.declared.formats.Format.{Format}
use Rattle.gpkt.specs.Packets.{Bytes}
use Rattle.ggrammar.specs.Capabilities.{is_word_value}
use Rattle.ggrammar.specs.declared.limits.Limits.{Limits}
use Rattle.grequest.specs.Asked.{LsRefsAsked, FetchAsked, Asked, Empty, Ls, Fetches, max_prefixes, max_wants, max_haves}

abbrev pub IsAgent : Option Bytes → Type 0
IsAgent agent = IfSome agent (λ value. IsTrue (is_word_value value))

pub record IsLsRefsAsked (limits : Limits) (asked : LsRefsAsked) : Type 0 where
  pub agent : IsAgent asked.agent
  pub prefixes : All IsPrefix asked.prefixes
  pub few : length asked.prefixes ≤ max_prefixes limits

pub record IsFetchAsked (limits : Limits) (format : Format) (asked : FetchAsked) : Type 0 where
  pub agent : IsAgent asked.agent
  pub wants : All (IsIdOf format) asked.wants
  pub haves : All (IsIdOf format) asked.haves
  pub few_wants : length asked.wants ≤ max_wants limits
  pub few_haves : length asked.haves ≤ max_haves limits

-- well-formed contents of a request with these limits, to a repository with this object format
abbrev pub IsAsked : Limits → Format → Asked → Type 0
IsAsked limits format Empty = Unit {0}
IsAsked limits format (Ls asked) = IsLsRefsAsked limits asked
IsAsked limits format (Fetches asked) = IsFetchAsked limits format asked
