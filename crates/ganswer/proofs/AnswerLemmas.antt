-- Each request has at most one answer, and each ls-refs request has an answer.
use Rattle.std.proofs.Common.{◌≡◌, inl, inr, ℕ, Bool, true, false, List, [], ◌∷◌, ◌++◌, Option, Some, None, refl, sym}
use Rattle.std.proofs.Common.{ap, ◌∙◌, ap₂, subst}
use Rattle.gobject.specs.Packs.{AreEntries, Indexes, IndexFails, LosesNothing, PackFails, Packs}
use Rattle.gobject.specs.declared.node.Entry.{Entry}
use Rattle.gdag.proofs.IdLists.{either_way}
use Rattle.gdag.specs.Laws.{PeelsToOne, OneListToSend, SentAreEntries}
use Rattle.gdag.specs.Peeling.{IsTagOf}
use Rattle.grefs.specs.RefLists.{RefList}
use Rattle.grequest.specs.Asked.{LsRefsAsked, ls_has, FetchAsked, Empty, Ls as LsAsked, Fetches}
use Rattle.grequest.specs.declared.flag.LsRefsFlag.TheVariants.{Peel}
use Rattle.glsreply.specs.LsReplies.{LsReply}
use Rattle.glsreply.specs.RefTexts.{RefLine}
use Rattle.ganswer.specs.LsAnswers.{IsPeeled, IsPeeledIf, LsAnswer, ShowsLines, all_refs, is_shown, symref_of}
use Rattle.ganswer.specs.LsAnswers.{unborn_of}
use Rattle.ganswer.specs.FetchAnswers.{FetchAnswer, SendsPack, commons_of, tag_tips}
use Rattle.ganswer.specs.Answers.{Nothing, Ls, Fetch}
use Rattle.ganswer.specs.Servers.{Server, IsServer}
use Rattle.ganswer.specs.Laws.{AnswersAreOne}
use Rattle.ganswer.proofs.LsLemmas.{one_list, shows_hidden, shows_join, shows_line, shows_none}
use Rattle.ganswer.proofs.PeelLemmas.{PeelsOrNot, TagOrNot, peels_or_not, tag_or_not}
use Rattle.gfetchreply.specs.FetchReplies.{FetchReply, Acks, Ready, Pack}

module _ {A : Type 0} (g : List (Entry A)) where
  -- `IsPeeled` holds for each id, either with a commit or with `None`
  peeled_of : (a : List ℕ) → (o : Option (List ℕ)) × IsPeeled g a o
  peeled_of a = by_tag (tag_or_not g a)
    where
      by_end : (named : List ℕ) → IsTagOf g a named → PeelsOrNot g a → (o : Option (List ℕ)) × IsPeeled g a o
      by_end named tag (inl (c, peels)) = (Some c, record { named = named; tag = tag; peels = peels })
      by_end named tag (inr never) = (None, λ c leads. never c leads.peels)

      by_tag : TagOrNot g a → (o : Option (List ℕ)) × IsPeeled g a o
      by_tag (inl (named, tag)) = by_end named tag (peels_or_not g a)
      by_tag (inr no_tag) = (None, λ c leads. no_tag leads.named leads.tag)

  peeled_if : (is_asked : Bool) (a : List ℕ) → (o : Option (List ℕ)) × IsPeeledIf is_asked g a o
  peeled_if false a = (None, refl)
  peeled_if true a = peeled_of a

module _ {A : Type 0} (server : Server A) (asked : LsRefsAsked) where
  line_for : (ref : List ℕ × List ℕ) → (lines : List RefLine) × ShowsLines server asked (ref ∷ []) lines
  line_for ref =
      let peeled = peeled_if server.graph.entries (ls_has asked Peel) ref.1 in
      let line : RefLine = record { id = ref.1; name = ref.0; symref = symref_of server.head asked ref.0; peeled = peeled.0 } in
      either_way (is_shown asked.prefixes ref)
      (λ shown. (line ∷ [], shows_line server asked ref line shown refl (record { symref = refl; peeled = peeled.1 })))
      (λ hidden. ([], shows_hidden server asked ref hidden))

  lines_for : (refs : RefList) → (lines : List RefLine) × ShowsLines server asked refs lines
  lines_for [] = ([], shows_none server asked)
  lines_for (ref ∷ refs) =
      let here = line_for ref in
      let rest = lines_for refs in
      (here.0 ++ rest.0, shows_join server asked (ref ∷ []) refs here.0 rest.0 here.1 rest.1)

  pub has_answer : (reply : LsReply) × LsAnswer server asked reply
  has_answer =
      let lines = lines_for (all_refs server) in
      (record { unborn = unborn_of server asked; lines = lines.0 }, record { lines = lines.1; unborn = refl })

  pub one_answer : PeelsToOne A → (a b : LsReply) → LsAnswer server asked a → LsAnswer server asked b → a ≡ b
  one_answer law a b x y =
      let lines = one_list server asked law (all_refs server) a.lines b.lines x.lines y.lines in
      ap (λ (u : Option (List ℕ)). record { unborn = u; lines = a.lines }) (x.unborn ∙ sym y.unborn)
      ∙ ap (λ (l : List RefLine). record { unborn = b.unborn; lines = l }) lines

-- ---- at most one answer of a server with a faithful packer

module _ {A : Type 0} (one_sent : OneListToSend A) (sent : SentAreEntries A) (packs : Packs A) (fails : PackFails A) (indexes : Indexes A)
    (index_fails : IndexFails) (image : List (Entry A) → List ℕ) (law : LosesNothing packs fails indexes index_fails image) where
  -- a fetch request has at most one pack
  one_pack : (server : Server A) (asked : FetchAsked) (a b : List ℕ) → IsServer server
      → SendsPack server packs asked a → SendsPack server packs asked b → a ≡ b
  one_pack server asked a b is x y =
      let commons = commons_of server asked in
      let tips = tag_tips server asked in
      let entries : AreEntries x.list = (sent server.graph x.list asked.wants commons tips is.graph x.sent).1 in
      let same : x.list ≡ y.list = one_sent server.graph.entries x.list y.list asked.wants commons tips x.sent y.sent in
      law.packs_image x.list a entries x.packed
      ∙ (ap image same ∙ sym (law.packs_image y.list b (subst AreEntries same entries) y.packed))

  one_reply : (server : Server A) (asked : FetchAsked) (one other : FetchReply) → IsServer server
      → FetchAnswer server packs asked one → FetchAnswer server packs asked other → one ≡ other
  one_reply server asked (Pack a) (Pack b) is h k = ap Pack (one_pack server asked a b is h.replies.1 k.replies.1)
  one_reply server asked (Ready ids a) (Ready commons b) is h k =
      ap₂ Ready (h.replies.1 ∙ sym k.replies.1) (one_pack server asked a b is h.replies.3 k.replies.3)
  one_reply server asked (Acks ids) (Acks commons) is h k = ap Acks (h.replies.1 ∙ sym k.replies.1)
  one_reply server asked (Ready ids a) (Acks commons) is h k = absurd (k.replies.2 h.replies.2)
  one_reply server asked (Acks ids) (Ready commons b) is h k = absurd (h.replies.2 k.replies.2)
  one_reply server asked one other is h k =
      let first = h.replies.0 in
      let second = k.replies.0 in
      absurd cc

  pub answers_are_one : PeelsToOne A → AnswersAreOne A packs
  answers_are_one peels server Empty Nothing Nothing is h k = refl
  answers_are_one peels server (LsAsked asked) (Ls a) (Ls b) is h k = ap Ls (one_answer server asked peels a b h k)
  answers_are_one peels server (Fetches asked) (Fetch a) (Fetch b) is h k = ap Fetch (one_reply server asked a b is h k)
  answers_are_one peels server Empty Nothing other is h k = absurd k
  answers_are_one peels server (LsAsked asked) (Ls a) other is h k = absurd k
  answers_are_one peels server (Fetches asked) (Fetch a) other is h k = absurd k
  answers_are_one peels server asked one other is h k = absurd h
