use Rattle.std.proofs.Common.{◌<◌, ◌∙◌, ℕ, List, [], ◌∷◌, ◌++◌, ap, codes, length, map, subst}
use Rattle.gpkt.specs.Packets.{Bytes, Data, canonical, line_feed}
use Rattle.grequest.specs.Asked.{Fetches, Ls}
use Rattle.grequest.specs.RequestWriting.{id_packet, prefix_packet}
use Rattle.gfetch.proofs.SayingLemmas.{firsts_over, items_from, no_items_from, one_said, prefix_said, want_said}
use Rattle.gfetch.proofs.asking.say_first.Goals as goal

pub returns-in-Some : goal.returns-in-Some
returns-in-Some g c = λ format.
    let asked = c.in-Ls.asked.asked in
    let prefix = c.in-Some.prefix.now in
    let same = c.prefixes.ensures.prefixes in
    let lookup = c.in-Some.ensures.lookup in
    rw c.in-Ls.is (prefix_said format asked c.args.at prefix c.put_text.new.self
    (subst (λ (l : List Bytes). c.args.at < length l) same lookup.3.0)
    (items_from asked.prefixes c.prefixes.result.now c.args.at prefix same lookup.3.0 (lookup.3.1 prefix))
    (one_said (prefix_packet prefix) c.args.out.now c.put_text.new.self c.requires
    (c.put_text.ensures ∙ ap (λ (t : Bytes). c.args.out.now ++ canonical (Data (codes "ref-prefix " ++ t ++ line_feed ∷ []))) c.as_bytes.ensures.bytes)))

pub returns-in-Some-get : goal.returns-in-Some-get
returns-in-Some-get g c = λ format.
    let asked = c.in-Fetch.asked.asked in
    let id = c.in-Some-get.id.now in
    let same = c.wants.ensures.wants in
    let lookup = c.in-Some-get.ensures.lookup in
    rw c.in-Fetch.is (want_said format asked c.args.at id c.say_id.new.out
    (subst (λ (l : List (List ℕ)). c.args.at < length l) same lookup.3.0)
    (items_from asked.wants c.wants.result.now c.args.at id same lookup.3.0 (lookup.3.1 id))
    c.say_id.ensures)

pub returns-in_default : goal.returns-in_default
returns-in_default g c = λ format.
    let asked = c.in-Ls.asked.asked in
    rw c.in-Ls.is (firsts_over format (Ls asked) c.args.at c.args.out.now c.requires
    (ap (λ (l : List Bytes). map prefix_packet l)
    (no_items_from asked.prefixes c.prefixes.result.now c.args.at c.prefixes.ensures.prefixes c.in_default.ensures.lookup.3)))

pub returns-in_default-get : goal.returns-in_default-get
returns-in_default-get g c = λ format.
    let asked = c.in-Fetch.asked.asked in
    rw c.in-Fetch.is (firsts_over format (Fetches asked) c.args.at c.args.out.now c.requires
    (ap (λ (l : List (List ℕ)). map (id_packet (codes "want ")) l)
    (no_items_from asked.wants c.wants.result.now c.args.at c.wants.ensures.wants c.in_default-get.ensures.lookup.3)))
