-- Queuing the lines of refs.
use Rattle.std.proofs.Common.{◌≡◌, ◌<◌, ◌+◌, ℕ, List, [], ◌∷◌, ◌++◌, length, map, drop, Option, Some, codes, refl, sym, ap, ap₂, ◌∙◌, subst, append-nil, add-one, drop-cons, get_or}
use Rattle.std.specs.List.{slice_get}
use Rattle.std.proofs.lemmas.List.Elements.{All-nil}
use Rattle.std.proofs.lemmas.Option.{slice_get_read}
use Rattle.gpkt.specs.Packets.{Bytes, Data, canonical, canonical_all, line_feed}
use Rattle.grefs.specs.RefLists.{RefList}
use Rattle.grequest.specs.Asked.{LsRefsAsked}
use Rattle.glsreply.specs.LsReplies.{ref_packet, unborn_packets}
use Rattle.glsreply.specs.RefTexts.{RefLine, ref_text, unborn_text}
use Rattle.ganswer.specs.LsAnswers.{HasAttributes, ShowsLines}
use Rattle.ganswer.specs.Servers.{Server}
use Rattle.gserver.specs.steps.RefLines.{SaysLines}

pub unborn_said : (name text before out : Bytes) (target : Option Bytes) → text ≡ name → Some name ≡ target
    → out ≡ before ++ canonical (Data (codes "unborn HEAD symref-target:" ++ text ++ line_feed ∷ []))
    → out ≡ before ++ canonical_all (unborn_packets target)
unfolding unborn_text
unborn_said name text before out target same some is =
    is ∙ ap (λ t. before ++ canonical (Data (codes "unborn HEAD symref-target:" ++ t ++ line_feed ∷ []))) same
    ∙ ap (λ l. before ++ l) (sym (append-nil (canonical (Data (codes "unborn HEAD symref-target:" ++ name ++ line_feed ∷ [])))))
    ∙ ap (λ t. before ++ canonical_all (unborn_packets t)) some

pub line_said : (line : RefLine) (text before out : Bytes) → text ≡ ref_text line
    → out ≡ before ++ canonical (Data (text ++ [] ++ line_feed ∷ []))
    → out ≡ before ++ canonical_all (map ref_packet (line ∷ []))
line_said line text before out same is =
    is ∙ ap (λ t. before ++ canonical (Data (t ++ line_feed ∷ []))) (append-nil text ∙ same)
    ∙ ap (λ l. before ++ l) (sym (append-nil (canonical (ref_packet line))))

module _ {A : Type 0} (server : Server A) (asked : LsRefsAsked) where
  pub no_lines : (refs : RefList) (before : Bytes) → refs ≡ [] → SaysLines server asked refs before before
  no_lines refs before none = record {
    lines = [];
    shows = subst (λ r. ShowsLines server asked r []) (sym none) (record { shown = refl; attributes = All-nil (HasAttributes server asked) });
    spelt = sym (append-nil before);
  }

  pub some_lines : (refs same : RefList) (lines : List RefLine) (before out : Bytes) → refs ≡ same
      → ShowsLines server asked same lines → out ≡ before ++ canonical_all (map ref_packet lines)
      → SaysLines server asked refs before out
  some_lines refs same lines before out is shows spelt = record {
    lines = lines;
    shows = subst (λ r. ShowsLines server asked r lines) (sym is) shows;
    spelt = spelt;
  }

-- ---- the ref at a position

pub ref_found : (refs lent : RefList) (at : ℕ) (ref : Bytes × Bytes) → lent ≡ refs → at < length lent
    → ref ≡ get_or lent at ref → slice_get refs at ≡ Some ref
ref_found refs lent at ref same less is =
    subst (λ l. slice_get l at ≡ Some ref) same (slice_get_read lent (length lent) at ref refl less is)

pub refs_from : (refs lent : RefList) (at : ℕ) (ref : Bytes × Bytes) → lent ≡ refs → at < length lent
    → ref ≡ get_or lent at ref → drop at refs ≡ ref ∷ drop (at + 1) refs
refs_from refs lent at ref same less is =
    subst (λ l. drop at l ≡ ref ∷ drop (at + 1) l) same
    (drop-cons lent at ref less ∙ ap₂ (λ x l. x ∷ l) (sym is) (ap (λ n. drop n lent) (sym (add-one at))))
