-- Requests with equal contents, and the contents of a request after one more argument.
use Rattle.std.proofs.Common.{◌≡◌, ℕ, List, [], ◌∷◌, ◌++◌, refl, ap, ◌∙◌, append-nil}
use Rattle.std.specs.Option.{option_to_list}
use Rattle.gname.specs.declared.formats.Format.{Format}
use Rattle.ggrammar.proofs.PlaceLemmas.{filter_map-push}
use Rattle.grequest.specs.Arguments.{ls_flags, LsArgument, KnownLsFlag, RefPrefix, UnknownLsArgument, ls_argument}
use Rattle.grequest.specs.Arguments.{fetch_flags, FetchArgument, KnownFetchFlag, Want, Have, UnknownFetchArgument, fetch_argument}
use Rattle.grequest.specs.Asked.{LsRefsAsked, FetchAsked, same_ls_flag, same_fetch_flag}
use Rattle.grequest.specs.RequestLines.{ls_refs_asked, is_ls_flag, prefixes, prefix_value}
use Rattle.grequest.specs.RequestLines.{fetch_asked, is_fetch_flag, want_value, have_value, wants, haves}
use Rattle.grequest.specs.steps.Building.{HaveSameIds}
use Rattle.grequest.specs.steps.RequestState.{with_ls_argument, with_fetch_argument}
use Rattle.grequest.proofs.FlagLemmas.{flags_more, flags_same, ls_has_each, fetch_has_each}

-- ---- equality of contents, part by part

pub same_ls : {a b : LsRefsAsked} → a.agent ≡ b.agent → a.flags ≡ b.flags → a.prefixes ≡ b.prefixes → a ≡ b
same_ls agent flags prefixes = λ i. record { agent = agent i; flags = flags i; prefixes = prefixes i }

pub same_asked : (one other : FetchAsked) → one.agent ≡ other.agent → HaveSameIds one other → one.flags ≡ other.flags → one ≡ other
same_asked one other agent ids flags = λ i. record { agent = agent i; wants = ids.0 i; haves = ids.1 i; flags = flags i }

pub same_parts : (one other : FetchAsked) → one ≡ other → (one.agent ≡ other.agent) × HaveSameIds one other × (one.flags ≡ other.flags)
same_parts one other same = (
  ap (λ (asked : FetchAsked). asked.agent) same,
  (ap (λ (asked : FetchAsked). asked.wants) same, ap (λ (asked : FetchAsked). asked.haves) same),
  ap (λ (asked : FetchAsked). asked.flags) same,
)

-- ---- an argument of ls-refs

prefixes_more : (texts : List (List ℕ)) (line : List ℕ) (form : LsArgument) → ls_argument line ≡ form
    → prefixes (texts ++ line ∷ []) ≡ prefixes texts ++ option_to_list (prefix_value form)
prefixes_more texts line form is = filter_map-push (λ text. prefix_value (ls_argument text)) texts line _ (ap prefix_value is)

pub ls_refs_asked-push : (capabilities arguments : List (List ℕ)) (line : List ℕ) (form : LsArgument) → ls_argument line ≡ form
    → ls_refs_asked capabilities (arguments ++ line ∷ []) ≡ with_ls_argument (ls_refs_asked capabilities arguments) form
ls_refs_asked-push capabilities texts line (RefPrefix prefix) is =
    same_ls refl (flags_same same_ls_flag ls_flags ls_argument is_ls_flag texts line _ is (λ flag. refl)) (prefixes_more texts line _ is)
ls_refs_asked-push capabilities texts line UnknownLsArgument is =
    same_ls refl (flags_same same_ls_flag ls_flags ls_argument is_ls_flag texts line _ is (λ flag. refl))
    (prefixes_more texts line _ is ∙ append-nil _)
ls_refs_asked-push capabilities texts line (KnownLsFlag flag) is =
    same_ls refl (flags_more same_ls_flag ls_flags ls_argument is_ls_flag texts line _ is ls_has_each flag (λ other. refl))
    (prefixes_more texts line _ is ∙ append-nil _)

-- ---- an argument of fetch

module _ (format : Format) (texts : List (List ℕ)) (line : List ℕ) (form : FetchArgument) (is : fetch_argument line ≡ form) where
  wants_more : wants format (texts ++ line ∷ []) ≡ wants format texts ++ option_to_list (want_value format form)
  wants_more = filter_map-push (λ text. want_value format (fetch_argument text)) texts line _ (ap (want_value format) is)

  haves_more : haves format (texts ++ line ∷ []) ≡ haves format texts ++ option_to_list (have_value format form)
  haves_more = filter_map-push (λ text. have_value format (fetch_argument text)) texts line _ (ap (have_value format) is)

pub fetch_asked-push : (format : Format) (capabilities arguments : List (List ℕ)) (line : List ℕ) (form : FetchArgument) → fetch_argument line ≡ form
    → fetch_asked format capabilities (arguments ++ line ∷ []) ≡ with_fetch_argument format (fetch_asked format capabilities arguments) form
fetch_asked-push format capabilities texts line (Want id) is =
    same_asked _ _ refl (wants_more format texts line _ is, haves_more format texts line _ is ∙ append-nil _)
    (flags_same same_fetch_flag fetch_flags fetch_argument is_fetch_flag texts line _ is (λ flag. refl))
fetch_asked-push format capabilities texts line (Have id) is =
    same_asked _ _ refl (wants_more format texts line _ is ∙ append-nil _, haves_more format texts line _ is)
    (flags_same same_fetch_flag fetch_flags fetch_argument is_fetch_flag texts line _ is (λ flag. refl))
fetch_asked-push format capabilities texts line UnknownFetchArgument is =
    same_asked _ _ refl (wants_more format texts line _ is ∙ append-nil _, haves_more format texts line _ is ∙ append-nil _)
    (flags_same same_fetch_flag fetch_flags fetch_argument is_fetch_flag texts line _ is (λ flag. refl))
fetch_asked-push format capabilities texts line (KnownFetchFlag flag) is =
    same_asked _ _ refl (wants_more format texts line _ is ∙ append-nil _, haves_more format texts line _ is ∙ append-nil _)
    (flags_more same_fetch_flag fetch_flags fetch_argument is_fetch_flag texts line _ is fetch_has_each flag (λ other. refl))
