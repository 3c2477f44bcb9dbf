use Rattle.std.proofs.Common.{◌≡◌, ◌∙◌, ◌++◌, ℕ, Bool, List, [], subst, sym}
use Rattle.gdag.specs.Levels.{new_ids}
use Rattle.gdag.proofs.IdLists.{new_ids-append}
use Rattle.gwalk.specs.Offers.{AreReached}
use Rattle.gwalk.specs.Walks.{HasMet}
use Rattle.gwalk.specs.steps.Offers.{HasMarks}
use Rattle.gwalk.proofs.Offering.{sent_marks}
use Rattle.gwalk.proofs.offer.Offers.next.Goals as goal

pub first_untold-requires : goal.first_untold-requires
first_untold-requires g c =
    let heard = c.in_ok-hear.ensures c.requires.0 c.requires.1 c.requires.2 c.requires.3 c.requires.4 c.requires.5 in
    (c.requires.0, heard.front, heard.back, heard.underway)

pub meet_all-requires-clause-has : goal.meet_all-requires-clause-has
meet_all-requires-clause-has g c =
    let heard = c.in_ok-hear.ensures c.requires.0 c.requires.1 c.requires.2 c.requires.3 c.requires.4 c.requires.5 in
    (new_ids [] c.requires.3, heard.met)

pub returns-clause-answer : goal.returns-clause-answer
returns-clause-answer g c = λ tips first rest sent parts begun.
    let h = c.args.graph.now.entries in
    let heard = c.in_ok-hear.ensures tips first rest sent parts begun in
    let ids = c.in_ok-ids.ids.items in
    let now = c.hear.new.self in
    let known : AreReached h c.args.commons.now c.as_slice-known.result.now =
    subst (λ (l : List Bool). AreReached h c.args.commons.now l) (sym c.as_slice-known.ensures.value) heard.known in
    let marks : HasMarks h sent c.as_slice-sent.result.now =
    subst (λ (l : List Bool). HasMarks h sent l) (sym c.as_slice-sent.ensures.value)
    (sent_marks h sent now.sent.marks.items now.sent.met.items now.sent.missing now.sent.parent_count heard.met) in
    let goes = c.in_ok-ids.ensures tips heard.front heard.back c.args.commons.now sent heard.underway known marks heard.told in
    let met = c.meet_all.new.self in
    let meets : HasMet h (new_ids [] sent ++ new_ids (new_ids [] sent) ids) met.marks.items met.met.items met.missing met.parent_count =
    rw c.as_slice.ensures.value at (c.in_ok-meet_all.ensures (new_ids [] sent) heard.met) in (
      goes.offer,
      record {
        front = goes.front;
        back = goes.back;
        underway = goes.underway;
        told = goes.told;
        known = heard.known;
        heard = heard.heard;
        met = subst (λ (l : List (List ℕ)). HasMet h l met.marks.items met.met.items met.missing met.parent_count)
            (sym (new_ids-append [] sent ids)) meets;
      },
    )
