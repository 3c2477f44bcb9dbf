use Rattle.std.proofs.Common.{◌<◌, ℕ, List, length, subst}
use Rattle.gfetch.proofs.SayingLemmas.{have_said, items_from}
use Rattle.gfetch.proofs.asking.say_have.Goals as goal

pub returns-in-Some : goal.returns-in-Some
returns-in-Some g c = λ format.
    let asked = c.in-Fetch.asked.asked in
    let id = c.in-Some.id.now in
    let same = c.haves.ensures.haves in
    let lookup = c.in-Some.ensures.lookup in
    rw c.in-Fetch.is (have_said format asked c.args.at id c.say_id.new.out
    (subst (λ (l : List (List ℕ)). c.args.at < length l) same lookup.3.0)
    (items_from asked.haves c.haves.result.now c.args.at id same lookup.3.0 (lookup.3.1 id))
    c.say_id.ensures)
