-- Requests that are being built, with their limits, and their initial contents.
use Rattle.std.specs.Prelude.{false, [], None}
use Rattle.gname.specs.declared.formats.Format.{Format}
use Rattle.ggrammar.specs.declared.limits.Limits.{Limits}
use Rattle.grequest.specs.Flags.{flags_where}
use Rattle.grequest.specs.Arguments.{ls_flags, fetch_flags}
use Rattle.grequest.specs.Asked.{LsRefsAsked, FetchAsked}

-- the contents of an ls-refs request, with its limits
pub record LimitedLsRefs : Type 0 where
  pub limits : Limits
  pub asked : LsRefsAsked

-- the contents of a fetch request, with the format of its ids and its limits
pub record FormattedFetch : Type 0 where
  pub format : Format
  pub limits : Limits
  pub asked : FetchAsked

abbrev pub no_ls_refs : LsRefsAsked
no_ls_refs = record { agent = None; flags = flags_where ls_flags (λ flag. false); prefixes = [] }

abbrev pub no_fetch : FetchAsked
no_fetch = record { agent = None; wants = []; haves = []; flags = flags_where fetch_flags (λ flag. false) }
