-- The lines of refs: joining and splitting lists of lines, and the uniqueness of these lists.
use Rattle.std.proofs.Common.{◌≡◌, ℕ, Bool, true, false, cond, List, [], ◌∷◌, ◌++◌, length, map, take, drop, All}
use Rattle.std.proofs.Common.{Option, Some, None, refl, sym, ap, ap₂, ◌∙◌, subst, ◌+◌, ◌<◌, get_or, Result, Ok, Err}
use Rattle.std.proofs.Common.{append_assoc}
use Rattle.std.specs.Prelude.{filter, OnOk}
use Rattle.std.proofs.lemmas.List.{map-append, take-append-drop, take-map, drop-map, take_at, drop_at, take_more}
use Rattle.std.proofs.lemmas.List.Elements.{All-append, All-cons, All-drop, All-head, All-nil, All-tail, All-take}
use Rattle.std.proofs.lemmas.List.Elements.{filter-append}
use Rattle.gdag.proofs.Growing.{at_front}
use Rattle.gdag.specs.Laws.{PeelsToOne}
use Rattle.grefs.specs.RefLists.{RefList}
use Rattle.grequest.specs.declared.flag.LsRefsFlag.TheVariants.{Peel}
use Rattle.grequest.specs.Asked.{LsRefsAsked, ls_has}
use Rattle.glsreply.specs.LsReplies.{LsReply}
use Rattle.glsreply.specs.RefTexts.{RefLine}
use Rattle.ganswer.specs.LsAnswers.{HasAttributes, IsPeeled, IsPeeledIf, ShowsLines, is_shown, name_and_id, symref_of}
use Rattle.ganswer.specs.LsAnswers.{head_id, head_ref, unborn_of}
use Rattle.ganswer.specs.steps.Answers.{IsAnswering, IsNextRef}
use Rattle.ganswer.specs.declared.fault.ServeFault.{ServeFault}
use Rattle.ganswer.specs.Servers.{Server}
use Rattle.gname.specs.Names.{head_name}

module _ {A : Type 0} (server : Server A) (asked : LsRefsAsked) where
  pub shows_none : ShowsLines server asked [] []
  shows_none = record { shown = refl; attributes = All-nil (HasAttributes server asked) }

  pub shows_join : (a b : RefList) (x y : List RefLine) → ShowsLines server asked a x → ShowsLines server asked b y → ShowsLines server asked (a ++ b) (x ++ y)
  shows_join a b x y left right = record {
    shown = map-append name_and_id x y ∙ ap₂ (λ u v. u ++ v) left.shown right.shown ∙ sym (filter-append (is_shown asked.prefixes) a b);
    attributes = All-append (HasAttributes server asked) x y left.attributes right.attributes;
  }

  -- a ref that the request does not include has no line
  pub shows_hidden : (ref : List ℕ × List ℕ) → is_shown asked.prefixes ref ≡ false → ShowsLines server asked (ref ∷ []) []
  shows_hidden ref hidden = record {
    shown = ap (λ (v : Bool). cond v (ref ∷ []) []) (sym hidden);
    attributes = All-nil (HasAttributes server asked);
  }

  pub shows_line : (ref : List ℕ × List ℕ) (line : RefLine) → is_shown asked.prefixes ref ≡ true → name_and_id line ≡ ref → HasAttributes server asked line → ShowsLines server asked (ref ∷ []) (line ∷ [])
  shows_line ref line shown is has = record {
    shown = ap (λ (r : List ℕ × List ℕ). r ∷ []) is ∙ ap (λ (v : Bool). cond v (ref ∷ []) []) (sym shown);
    attributes = All-cons (HasAttributes server asked) line [] has (All-nil (HasAttributes server asked));
  }

  -- ---- splitting a list of lines

  pub record Splits (a b : RefList) (lines : List RefLine) : Type 0 where
    pub first : List RefLine
    pub second : List RefLine
    pub parts : lines ≡ first ++ second
    pub left : ShowsLines server asked a first
    pub right : ShowsLines server asked b second

  pub split : (a b : RefList) (lines : List RefLine) → ShowsLines server asked (a ++ b) lines → Splits a b lines
  split a b lines s =
      let left = filter (is_shown asked.prefixes) a in
      let n = length left in
      let shown : map name_and_id lines ≡ left ++ filter (is_shown asked.prefixes) b =
      s.shown ∙ filter-append (is_shown asked.prefixes) a b in
      record {
        first = take n lines;
        second = drop n lines;
        parts = sym (take-append-drop n lines);
        left = record {
          shown = sym (take-map name_and_id n lines) ∙ ap (take n) shown ∙ take_at left _ n refl;
          attributes = All-take (HasAttributes server asked) n lines s.attributes;
        };
        right = record {
          shown = sym (drop-map name_and_id n lines) ∙ ap (drop n) shown ∙ drop_at left _ n refl;
          attributes = All-drop (HasAttributes server asked) n lines s.attributes;
        };
      }

  -- ---- the uniqueness of the lines

  module _ (law : PeelsToOne A) where
    one_peeled : (id : List ℕ) (x y : Option (List ℕ)) → IsPeeled server.graph.entries id x → IsPeeled server.graph.entries id y → x ≡ y
    one_peeled id None None a b = refl
    one_peeled id None (Some d) a b = absurd (a d b)
    one_peeled id (Some c) None a b = absurd (b c a)
    one_peeled id (Some c) (Some d) a b = ap (λ (e : List ℕ). Some e) (law server.graph.entries id c d a.peels b.peels)

    one_peeled_if : (is_asked : Bool) (id : List ℕ) (x y : Option (List ℕ)) → IsPeeledIf is_asked server.graph.entries id x → IsPeeledIf is_asked server.graph.entries id y → x ≡ y
    one_peeled_if false id x y a b = a ∙ sym b
    one_peeled_if true id x y a b = one_peeled id x y a b

    one_line : (x y : RefLine) → name_and_id x ≡ name_and_id y → HasAttributes server asked x → HasAttributes server asked y → x ≡ y
    one_line x y same a b =
        let names : x.name ≡ y.name = ap (λ (r : List ℕ × List ℕ). r.0) same in
        let ids : x.id ≡ y.id = ap (λ (r : List ℕ × List ℕ). r.1) same in
        let symrefs : x.symref ≡ y.symref = a.symref ∙ ap (λ (n : List ℕ). symref_of server.head asked n) names ∙ sym b.symref in
        let peels : x.peeled ≡ y.peeled = one_peeled_if (ls_has asked Peel) x.id x.peeled y.peeled a.peeled (subst (λ (i : List ℕ). IsPeeledIf (ls_has asked Peel) server.graph.entries i y.peeled) (sym ids) b.peeled) in
        ap (λ (i : List ℕ). record { id = i; name = x.name; symref = x.symref; peeled = x.peeled }) ids
        ∙ ap (λ (n : List ℕ). record { id = y.id; name = n; symref = x.symref; peeled = x.peeled }) names
        ∙ ap (λ (s : Option (List ℕ)). record { id = y.id; name = y.name; symref = s; peeled = x.peeled }) symrefs
        ∙ ap (λ (q : Option (List ℕ)). record { id = y.id; name = y.name; symref = y.symref; peeled = q }) peels

    same_lines : (xs ys : List RefLine) → map name_and_id xs ≡ map name_and_id ys → All (HasAttributes server asked) xs → All (HasAttributes server asked) ys → xs ≡ ys
    same_lines [] [] e a b = refl
    same_lines [] (y ∷ ys) e a b = absurd cc
    same_lines (x ∷ xs) [] e a b = absurd cc
    same_lines (x ∷ xs) (y ∷ ys) e a b =
        let Has = HasAttributes server asked in
        ap₂ (λ (l : RefLine) (ls : List RefLine). l ∷ ls)
        (one_line x y (cc) (All-head Has x xs a) (All-head Has y ys b))
        (same_lines xs ys (cc) (All-tail Has x xs a) (All-tail Has y ys b))

    pub one_list : (refs : RefList) (xs ys : List RefLine) → ShowsLines server asked refs xs → ShowsLines server asked refs ys → xs ≡ ys
    one_list refs xs ys a b = same_lines xs ys (a.shown ∙ sym b.shown) a.attributes b.attributes

-- ---- adding lines to a reply

module _ {A : Type 0} (server : Server A) (asked : LsRefsAsked) where
  -- adding the line of `ref`, or no line if the request does not include `ref`
  pub with_lines : (front : RefList) (ref : List ℕ × List ℕ) (old new : LsReply) (lines : List RefLine) → new ≡ record old { lines = old.lines ++ lines } → ShowsLines server asked (ref ∷ []) lines
      → IsAnswering server asked front old → IsAnswering server asked (front ++ ref ∷ []) new
  with_lines front ref old new lines is shows so_far =
      subst (IsAnswering server asked (front ++ ref ∷ [])) (sym is)
      (record { lines = shows_join server asked front (ref ∷ []) old.lines lines so_far.lines shows; unborn = so_far.unborn })

  -- ---- the line of HEAD

  pub nothing_yet : (reply : LsReply) → reply ≡ record { unborn = unborn_of server asked; lines = [] } → IsAnswering server asked [] reply
  nothing_yet reply is = subst (IsAnswering server asked []) (sym is) (record { lines = shows_none server asked; unborn = refl })

  pub head_next : (name id : List ℕ) (reply : LsReply) → name ≡ head_name → Some id ≡ head_id server.head server.refs → reply ≡ record { unborn = unborn_of server asked; lines = [] }
      → IsNextRef server asked (name, id) reply
  head_next name id reply is_head stands is = record {
    front = [];
    back = server.refs;
    parts = ap (λ (o : Option (List ℕ)). head_ref o ++ server.refs) (sym stands) ∙ ap (λ (n : List ℕ). (n, id) ∷ server.refs) (sym is_head);
    so_far = nothing_yet reply is;
  }

  pub head_added : (name id : List ℕ) (old new : LsReply) (result : Result Unit ServeFault) → name ≡ head_name → Some id ≡ head_id server.head server.refs
      → old ≡ record { unborn = unborn_of server asked; lines = [] }
      → OnOk result ((front : RefList) → IsAnswering server asked front old → IsAnswering server asked (front ++ (name, id) ∷ []) new)
      → OnOk result (IsAnswering server asked (head_ref (head_id server.head server.refs)) new)
  head_added name id old new (Err fault) is_head stands is added = tt
  head_added name id old new (Ok done) is_head stands is added =
      subst (λ (refs : RefList). IsAnswering server asked refs new)
      (ap (λ (n : List ℕ). (n, id) ∷ []) is_head ∙ ap head_ref stands)
      (added [] (nothing_yet old is))

  -- ---- the lines of the other refs

  pub ref_next : (k : ℕ) (ref : List ℕ × List ℕ) (reply : LsReply) → k < length server.refs → ref ≡ get_or server.refs k ref
      → IsAnswering server asked (head_ref (head_id server.head server.refs) ++ take k server.refs) reply → IsNextRef server asked ref reply
  ref_next k ref reply inside is so_far =
      let head = head_ref (head_id server.head server.refs) in
      record {
        front = head ++ take k server.refs;
        back = drop (k + 1) server.refs;
        parts = ap (λ (refs : RefList). head ++ refs) (at_front server.refs k ref inside is) ∙ sym (append_assoc head (take k server.refs) (ref ∷ drop (k + 1) server.refs));
        so_far = so_far;
      }

  pub refs_more : (k : ℕ) (ref : List ℕ × List ℕ) (reply : LsReply) → k < length server.refs → ref ≡ get_or server.refs k ref
      → IsAnswering server asked ((head_ref (head_id server.head server.refs) ++ take k server.refs) ++ ref ∷ []) reply
      → IsAnswering server asked (head_ref (head_id server.head server.refs) ++ take (k + 1) server.refs) reply
  refs_more k ref reply inside is so_far =
      let head = head_ref (head_id server.head server.refs) in
      let more : take (k + 1) server.refs ≡ take k server.refs ++ ref ∷ [] = take_more server.refs k ref inside ∙ ap (λ (r : List ℕ × List ℕ). take k server.refs ++ r ∷ []) (sym is) in
      subst (λ (refs : RefList). IsAnswering server asked refs reply) (append_assoc head (take k server.refs) (ref ∷ []) ∙ ap (λ (refs : RefList). head ++ refs) (sym more)) so_far
