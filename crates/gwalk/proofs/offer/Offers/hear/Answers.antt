use Rattle.std.proofs.Common.{◌≡◌, ◌≤◌, ◌∙◌, ◌++◌, ◌-◌, ℕ, List, [], length, drop, take, take_all, get_or, false, ◌||◌, All, append-nil, ap, refl, subst, sym, arith, length-append}
use Rattle.std.proofs.lemmas.List.{drop_at, nil_from_length}
use Rattle.gdag.specs.Offer.{MayBeOffered}
use Rattle.gwalk.specs.Offers.{AreOffers, AreReached}
use Rattle.gwalk.specs.Walks.{IsWalk}
use Rattle.gwalk.specs.Marks.{stop_at}
use Rattle.gwalk.proofs.Hearing.{more_reached, told_more}
use Rattle.gwalk.proofs.offer.Offers.hear.Goals as goal

pub returns-then-self-commons : goal.returns-then-self-commons
returns-then-self-commons g c = λ tips first rest sent parts begun.
    let long = length-append first rest in
    let all = ap length parts in
    let heard = begun.heard in
    let none : rest ≡ [] = nil_from_length rest (omega arith) in
    let same : first ≡ c.args.commons.now = sym (parts ∙ ap (λ (l : List (List ℕ)). first ++ l) none ∙ append-nil first) in
    subst (λ (l : List (List ℕ)). AreOffers c.args.graph.now.entries tips l sent c.args.self.now) same begun

pub returns : goal.returns
returns g c = λ tips first rest sent parts begun.
    let h = c.args.graph.now.entries in
    let known = c.args.self.now.known.items in
    let more : drop c.args.self.now.marked_commons c.args.commons.now ≡ rest =
    ap (drop c.args.self.now.marked_commons) parts ∙ drop_at first rest c.args.self.now.marked_commons (sym begun.heard) in
    let walk = c.in_ok-walk.walk in
    let walked : IsWalk (stop_at known h) rest walk.marks.items walk.met.items walk.missing walk.parent_count =
    let count : ℕ = length c.args.commons.now - c.args.self.now.marked_commons in
    let long = length-append first rest in
    let all = ap length parts in
    let heard = begun.heard in
    let whole : take count rest ≡ rest = take_all count rest (omega arith) in
    subst (λ (l : List (List ℕ)). IsWalk (stop_at known h) l walk.marks.items walk.met.items walk.missing walk.parent_count) whole
    (rw (c.as_slice.ensures.value, more) at c.in_ok-walk.ensures.walk) in
    let marks = c.in_ok-self.field-0.items in
    let joined : (p : ℕ) → get_or marks p false ≡ (get_or walk.marks.items p false || get_or known p false) =
    rw c.as_slice-2.ensures.value at c.in_ok-self.ensures in
    record {
      front = begun.front;
      back = begun.back;
      underway = begun.underway;
      told = subst (λ (l : List (List ℕ)). All (λ a. ¬ (MayBeOffered h l sent a)) begun.front) (sym parts)
          (told_more h first known begun.known sent rest begun.front begun.told);
      known = subst (λ (l : List (List ℕ)). AreReached h l marks) (sym parts)
          (more_reached h first known begun.known c.stops_at_marks.ensures rest walk.marks.items marks walk.met.items
          walk.missing walk.parent_count walked joined);
      heard = refl;
      met = begun.met;
    }
