-- The texts that are written for the flags and the values of a request: the packets and the contents of these texts.
use Rattle.std.proofs.Common.{◌≡◌, ℕ, ◌≤◌, ◌&&◌, ◌||◌, Bool, true, false, List, [], ◌∷◌, ◌++◌, length, map, Option}
use Rattle.std.proofs.Common.{Some, None, refl, sym, ap, ◌∙◌, append-nil, arith, codes}
use Rattle.std.specs.Prelude.{All}
use Rattle.std.specs.List.{filter_map, list_any, list_all}
use Rattle.std.proofs.Math.Bool.{or-false}
use Rattle.std.proofs.lemmas.List.{map-append, length-append}
use Rattle.std.proofs.lemmas.List.Elements.{All-nil, All-cons, All-head, All-tail, filter_map-append, All-append}
use Rattle.std.proofs.lemmas.List.Folds.{list_any-append}
use Rattle.gpkt.specs.Packets.{Packet, Data, text}
use Rattle.ggrammar.specs.Texts.{text_packet}
use Rattle.grequest.specs.RequestWriting.{flag_packets, flags_packets, agent_packets, format_packets}
use Rattle.grequest.specs.RequestWriting.{ls_argument_packets, fetch_argument_packets}
use Rattle.grequest.proofs.Texts.{text_of_line}
use Rattle.std.proofs.lemmas.Bool.{and_parts}
use Rattle.grequest.specs.Flags.{Table, FlagsOf, flags_where}
use Rattle.gname.specs.Formats.{format_name}
use Rattle.gname.specs.Ids.{id_text}
use Rattle.gname.specs.declared.formats.Format.{Format}
use Rattle.gname.specs.declared.formats.Format.TheVariants.{Sha1, Sha256}
use Rattle.grequest.specs.declared.flag.FetchFlag.TheVariants.{Done}
use Rattle.grequest.specs.Arguments.{ls_flags, fetch_flags}
use Rattle.grequest.specs.Asked.{LsRefsAsked, FetchAsked, fetch_has, fetch_with}

-- ---- texts and their packets

abbrev pub line_of : List ℕ → List ℕ
line_of words = words ++ 10 ∷ []

pub lines_are_packets : (texts : List (List ℕ)) → map Data (map line_of texts) ≡ map text_packet texts
lines_are_packets [] = refl
lines_are_packets (words ∷ texts) = ap (λ (xs : List Packet). text_packet words ∷ xs) (lines_are_packets texts)

pub texts_of_lines : (texts : List (List ℕ)) → map text (map line_of texts) ≡ texts
texts_of_lines [] = refl
texts_of_lines (words ∷ texts) = λ i. text_of_line words i ∷ texts_of_lines texts i

-- ---- lists of texts

-- the text of a flag if the flag is set, otherwise no text
abbrev pub flag_texts : List ℕ → Bool → List (List ℕ)
flag_texts word false = []
flag_texts word true = word ∷ []

pub flag_lines : (word : List ℕ) (is_set : Bool) → flag_packets word is_set ≡ map text_packet (flag_texts word is_set)
flag_lines word false = refl
flag_lines word true = refl

-- two concatenated lists of packets are the packets of the concatenated texts
pub joined : {front back : List Packet} (texts more : List (List ℕ)) → front ≡ map text_packet texts → back ≡ map text_packet more → front ++ back ≡ map text_packet (texts ++ more)
joined texts more e f = (λ i. e i ++ f i) ∙ sym (map-append text_packet texts more)

pub flag_count : (word : List ℕ) (is_set : Bool) → length (flag_texts word is_set) ≤ 1
flag_count word false = omega arith
flag_count word true = omega arith

-- the text of a flag is written and passes a test exactly if the flag is set and its text passes the test
pub flag_among : (p : List ℕ → Bool) (word : List ℕ) (is_set passes : Bool) → p word ≡ passes → list_any p (flag_texts word is_set) ≡ (is_set && passes)
flag_among p word false passes is = refl
flag_among p word true passes is = or-false (p word) ∙ is

pub then_none : (p : List ℕ → Bool) (xs ys : List (List ℕ)) (b : Bool) → list_any p xs ≡ b → list_any p ys ≡ false → list_any p (xs ++ ys) ≡ b
then_none p xs ys b e none = list_any-append p xs ys ∙ ap (λ (c : Bool). list_any p xs || c) none ∙ or-false (list_any p xs) ∙ e

pub no_value : (p : List ℕ → Bool) (give : List ℕ → List ℕ) → ((value : List ℕ) → p (give value) ≡ false) → (values : List (List ℕ)) → list_any p (map give values) ≡ false
no_value p give none [] = refl
no_value p give none (value ∷ values) = ap (λ (b : Bool). b || list_any p (map give values)) (none value) ∙ no_value p give none values

pub nothing_then : (h : List ℕ → Option (List ℕ)) (xs ys zs : List (List ℕ)) → filter_map h xs ≡ [] → filter_map h ys ≡ zs → filter_map h (xs ++ ys) ≡ zs
nothing_then h xs ys zs none e = filter_map-append h xs ys ∙ ap (λ (us : List (List ℕ)). us ++ filter_map h ys) none ∙ e

pub then_nothing : (h : List ℕ → Option (List ℕ)) (xs ys zs : List (List ℕ)) → filter_map h xs ≡ zs → filter_map h ys ≡ [] → filter_map h (xs ++ ys) ≡ zs
then_nothing h xs ys zs e none = filter_map-append h xs ys ∙ ap (λ (us : List (List ℕ)). filter_map h xs ++ us) none ∙ append-nil (filter_map h xs) ∙ e

pub flag_gives_none : (h : List ℕ → Option (List ℕ)) (word : List ℕ) (is_set : Bool) → h word ≡ None → filter_map h (flag_texts word is_set) ≡ []
flag_gives_none h word false none = refl
flag_gives_none h word true none = cc

pub values_give_none : (h : List ℕ → Option (List ℕ)) (give : List ℕ → List ℕ) → ((value : List ℕ) → h (give value) ≡ None) → (values : List (List ℕ)) → filter_map h (map give values) ≡ []
values_give_none h give none [] = refl
values_give_none h give none (value ∷ values) = let here = none value in let rest = values_give_none h give none values in cc

pub values_come_back : (h : List ℕ → Option (List ℕ)) (give : List ℕ → List ℕ) (values : List (List ℕ)) → All (λ value. h (give value) ≡ Some value) values → filter_map h (map give values) ≡ values
values_come_back h give [] back = refl
values_come_back h give (value ∷ values) back =
    let here = All-head (λ v. h (give v) ≡ Some v) value values back in
    let rest = values_come_back h give values (All-tail (λ v. h (give v) ≡ Some v) value values back) in
    cc

pub All-flag : (P : List ℕ → Type 0) (word : List ℕ) (is_set : Bool) → P word → All P (flag_texts word is_set)
All-flag P word false h = All-nil P
All-flag P word true h = All-cons P word [] h (All-nil P)

pub All-imply : {X : Type 0} (P Q : X → Type 0) → ((x : X) → P x → Q x) → (xs : List X) → All P xs → All Q xs
All-imply P Q step xs h k d lt = step _ (h k d lt)

-- ---- the flags of a table

-- Boolean equation: a flag occurs among the texts of the first row or of the rows after it
among_both : (here all any same : Bool) → (same ≡ true → here ≡ all) → ((here && same) || (all && any)) ≡ (all && (same || any))
among_both true true any true is = refl
among_both false false any true is = refl
among_both true false any true is = absurd (let no = is refl in cc)
among_both false true any true is = absurd (let no = is refl in cc)
among_both true all any false is = refl
among_both false all any false is = refl

module _ {F : Type 0} where
  -- the texts of the flags that are set
  abbrev pub flags_texts : (table : Table F) → FlagsOf table → List (List ℕ)
  flags_texts [] flags = []
  flags_texts (row ∷ rows) flags = flag_texts row.1 flags.0 ++ flags_texts rows flags.1

  pub flags_lines : (table : Table F) (flags : FlagsOf table) → flags_packets table flags ≡ map text_packet (flags_texts table flags)
  flags_lines [] flags = refl
  flags_lines (row ∷ rows) flags =
      joined (flag_texts row.1 flags.0) (flags_texts rows flags.1) (flag_lines row.1 flags.0) (flags_lines rows flags.1)

  pub flags_count : (table : Table F) (flags : FlagsOf table) → length (flags_texts table flags) ≤ length table
  flags_count [] flags = omega arith
  flags_count (row ∷ rows) flags =
      omega (arith, length-append (flag_texts row.1 flags.0) (flags_texts rows flags.1), flag_count row.1 flags.0, flags_count rows flags.1)

  -- a test that each row passes
  module _ (test : F × List ℕ → Bool) where
    pub flags_are : (P : List ℕ → Type 0) → ((row : F × List ℕ) → test row ≡ true → P row.1) → (table : Table F) (flags : FlagsOf table)
        → list_all test table ≡ true → All P (flags_texts table flags)
    flags_are P shows [] flags h = All-nil P
    flags_are P shows (row ∷ rows) flags h =
        let parts = and_parts (test row) (list_all test rows) h in
        All-append P (flag_texts row.1 flags.0) (flags_texts rows flags.1) (All-flag P row.1 flags.0 (shows row parts.0)) (flags_are P shows rows flags.1 parts.1)

    pub flags_give_none : (h : List ℕ → Option (List ℕ)) → ((row : F × List ℕ) → test row ≡ true → h row.1 ≡ None) → (table : Table F) (flags : FlagsOf table)
        → list_all test table ≡ true → filter_map h (flags_texts table flags) ≡ []
    flags_give_none h shows [] flags all = refl
    flags_give_none h shows (row ∷ rows) flags all =
        let parts = and_parts (test row) (list_all test rows) all in
        nothing_then h (flag_texts row.1 flags.0) (flags_texts rows flags.1) [] (flag_gives_none h row.1 flags.0 (shows row parts.0)) (flags_give_none h shows rows flags.1 parts.1)

    module _ (same : F → F → Bool) (one : (a b : F) → same a b ≡ true → a ≡ b) (says : F → List ℕ → Bool)
        (shows : (row : F × List ℕ) (flag : F) → test row ≡ true → says flag row.1 ≡ same flag row.0) where
      -- a flag occurs among the texts exactly if it is set and is in the table
      pub flags_said : (table : Table F) (passes : F → Bool) (flag : F) → list_all test table ≡ true
          → list_any (says flag) (flags_texts table (flags_where table passes)) ≡ (passes flag && list_any (λ row. same flag row.0) table)
      flags_said [] passes flag h = none (passes flag)
        where
          none : (b : Bool) → false ≡ (b && false)
          none true = refl
          none false = refl
      flags_said (row ∷ rows) passes flag h =
          let parts = and_parts (test row) (list_all test rows) h in
          list_any-append (says flag) (flag_texts row.1 (passes row.0)) (flags_texts rows (flags_where rows passes))
          ∙ (λ i. flag_among (says flag) row.1 (passes row.0) (same flag row.0) (shows row flag parts.0) i || flags_said rows passes flag parts.1 i)
          ∙ among_both (passes row.0) (passes flag) (list_any (λ r. same flag r.0) rows) (same flag row.0) (λ is. ap passes (sym (one flag row.0 is)))

-- ---- the texts that are written

abbrev pub agent_text : List ℕ → List ℕ
agent_text value = codes "agent=" ++ value

abbrev pub agent_texts : Option (List ℕ) → List (List ℕ)
agent_texts None = []
agent_texts (Some value) = agent_text value ∷ []

abbrev pub format_texts : Format → List (List ℕ)
format_texts Sha1 = []
format_texts Sha256 = (codes "object-format=" ++ format_name Sha256) ∷ []

abbrev pub capability_words : Format → Option (List ℕ) → List (List ℕ)
capability_words format agent = agent_texts agent ++ format_texts format

abbrev pub prefix_text : List ℕ → List ℕ
prefix_text prefix = codes "ref-prefix " ++ prefix

abbrev pub want_text : List ℕ → List ℕ
want_text id = codes "want " ++ id_text id

abbrev pub have_text : List ℕ → List ℕ
have_text id = codes "have " ++ id_text id

abbrev pub ls_texts : LsRefsAsked → List (List ℕ)
ls_texts asked = flags_texts ls_flags asked.flags ++ map prefix_text asked.prefixes

abbrev pub fetch_texts : FetchAsked → List (List ℕ)
fetch_texts asked =
    flags_texts fetch_flags (fetch_with asked Done false).flags
    ++ map want_text asked.wants
    ++ map have_text asked.haves
    ++ flag_texts (codes "done") (fetch_has asked Done)

pub value_lines : (give : List ℕ → List ℕ) (values : List (List ℕ)) → map (λ value. text_packet (give value)) values ≡ map text_packet (map give values)
value_lines give [] = refl
value_lines give (value ∷ values) = ap (λ (xs : List Packet). text_packet (give value) ∷ xs) (value_lines give values)

pub capability_lines : (format : Format) (agent : Option (List ℕ)) → agent_packets agent ++ format_packets format ≡ map text_packet (capability_words format agent)
capability_lines Sha1 None = refl
capability_lines Sha1 (Some value) = refl
capability_lines Sha256 None = refl
capability_lines Sha256 (Some value) = refl

pub ls_lines : (asked : LsRefsAsked) → ls_argument_packets asked ≡ map text_packet (ls_texts asked)
ls_lines asked = joined _ _ (flags_lines ls_flags asked.flags) (value_lines prefix_text asked.prefixes)

pub fetch_lines : (asked : FetchAsked) → fetch_argument_packets asked ≡ map text_packet (fetch_texts asked)
fetch_lines asked =
    joined _ _ (joined _ _ (joined _ _ (flags_lines fetch_flags (fetch_with asked Done false).flags)
    (value_lines want_text asked.wants)) (value_lines have_text asked.haves))
    (flag_lines (codes "done") (fetch_has asked Done))
