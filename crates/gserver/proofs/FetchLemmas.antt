-- The packets of a begun fetch are a reply to the fetch request.
use Rattle.std.proofs.Common.{◌≡◌, ℕ, inl, inr, Bool, true, false, List, [], ◌∷◌, ◌++◌, map, Option, Some, None, codes, refl, sym, ap, ◌∙◌, subst, append-nil, append_assoc}
use Rattle.gname.specs.Ids.{Id}
use Rattle.gobject.specs.declared.node.Entry.{Entry}
use Rattle.gobject.specs.declared.fault.PackFault.{PackFault}
use Rattle.gobject.specs.Packs.{PackFails, Packs}
use Rattle.gparts.specs.Parts.{Begins, Gives, MayGive}
use Rattle.gpkt.specs.Packets.{Bytes, Packet, Flush, Delim}
use Rattle.ggrammar.specs.Texts.{text_packet}
use Rattle.ggrammar.specs.Endings.{ends_with}
use Rattle.ggrammar.specs.declared.ends.Ends.{Ends}
use Rattle.grequest.specs.Asked.{FetchAsked, is_direct}
use Rattle.gfetchreply.specs.FetchReplies.{Acks, Ready, Pack, FetchReply, ack_packet, canonical_reply, data_packet, heading_packet, nak_if_none, pieces, ready_packet}
use Rattle.ganswer.specs.FetchAnswers.{CanServe, FetchAnswer, IsPackDue, IsReadyFor, IsSent, commons_of}
use Rattle.ganswer.specs.Servers.{Server}
use Rattle.gserver.specs.Fetching.{SaysFetch}
use Rattle.gserver.specs.PackSaying.{SaysPack}
use Rattle.gserver.specs.Saying.{EndsPack, SaysEnd, SaysFirst, SaysSection, fatal_packet}

-- ---- the canonical packets of a reply

pub acks_list : (ends : Ends) (ids : List Id) (said rest : List Packet)
    → said ≡ (heading_packet ∷ nak_if_none (map ack_packet ids)) ++ rest → rest ≡ Flush ∷ ends_with ends
    → said ≡ canonical_reply ends (Acks ids)
unfolding canonical_reply
acks_list ends ids said rest parts is =
    parts ∙ ap (λ l. heading_packet ∷ (nak_if_none (map ack_packet ids) ++ l)) is
    ∙ ap (λ l. heading_packet ∷ l) (sym (append_assoc (nak_if_none (map ack_packet ids)) (Flush ∷ []) (ends_with ends)))

abbrev pub section : List Packet → Ends → List Packet
section packets ends = text_packet (codes "packfile") ∷ (packets ++ Flush ∷ ends_with ends)

pub pack_list : (ends : Ends) (pack : Bytes)
    → section (map data_packet (pieces pack)) ends ≡ canonical_reply ends (Pack pack)
unfolding canonical_reply
pack_list ends pack =
    ap (λ l. text_packet (codes "packfile") ∷ l) (sym (append_assoc (map data_packet (pieces pack)) (Flush ∷ []) (ends_with ends)))

pub ready_list : (ends : Ends) (ids : List Id) (pack : Bytes)
    → heading_packet ∷ (map ack_packet ids ++ ready_packet ∷ Delim ∷ section (map data_packet (pieces pack)) ends)
    ≡ canonical_reply ends (Ready ids pack)
unfolding canonical_reply
ready_list ends ids pack =
    ap (λ l. heading_packet ∷ (map ack_packet ids ++ ready_packet ∷ Delim ∷ text_packet (codes "packfile") ∷ l))
    (sym (append_assoc (map data_packet (pieces pack)) (Flush ∷ []) (ends_with ends)))
    ∙ ap (λ l. heading_packet ∷ l)
    (sym (append_assoc (map ack_packet ids) (ready_packet ∷ Delim ∷ text_packet (codes "packfile") ∷ (map data_packet (pieces pack) ++ Flush ∷ [])) (ends_with ends)))

-- ---- the reply

module _ {A : Type 0} (server : Server A) (packs : Packs A) (fails : PackFails A) (asked : FetchAsked) (ends : Ends) (goes_on : Bool)
    (can : CanServe server asked) where
  pub acks_answer : (ids : List Id) (said : List Packet) (goes : Bool) → is_direct asked ≡ false → ids ≡ commons_of server asked
      → ¬ (IsReadyFor server asked)
      → SaysFirst (heading_packet ∷ nak_if_none (map ack_packet ids)) (SaysEnd ends goes_on) said goes
      → SaysFetch server (MayGive packs) fails asked ends goes_on said goes
  acks_answer ids said goes direct commons not says = inl (record {
    reply = Acks ids;
    answers = record { can = can; replies = (direct, commons, not) };
    all = acks_list ends ids said says.rest says.parts says.then.0;
    goes_so = says.then.1;
  })

  module _ (list : List (Entry A)) (sent : IsSent server asked list) (gives : Gives) (most : ℕ) (begins : Begins packs fails list gives most) where
    -- the packets `front`, followed by the section of a pack, satisfy `SaysFetch`
    after : (front : List Packet) (due : IsPackDue server asked) (reply : Bytes → FetchReply)
        → ((pack : Bytes) → MayGive packs list pack → FetchAnswer server (MayGive packs) asked (reply pack))
        → ((pack : Bytes) → front ++ section (map data_packet (pieces pack)) ends ≡ canonical_reply ends (reply pack))
        → (said more rest : List Packet) (goes : Bool) → said ≡ front ++ more → more ≡ text_packet (codes "packfile") ∷ rest
        → (packets : List Packet) (end : Option PackFault) → SaysPack gives packets end
        → EndsPack ends goes_on packets end rest goes
        → SaysFetch server (MayGive packs) fails asked ends goes_on said goes
    after front due reply answers spelt said more rest goes parts first packets None pack ended =
        let whole : MayGive packs list pack.sent =
        subst (MayGive packs list) (ap (λ l. pack.sent ++ l) (pack.all refl) ∙ append-nil pack.sent) (begins.whole (pack.sent ++ pack.lost) pack.given) in
        inl (record {
          reply = reply pack.sent;
          answers = answers pack.sent whole;
          all = parts ∙ ap (λ l. front ++ l) (first ∙ ap (λ l. text_packet (codes "packfile") ∷ l) (ended.0 ∙ ap (λ l. l ++ Flush ∷ ends_with ends) pack.pieces)) ∙ spelt pack.sent;
          goes_so = ended.1;
        })
    after front due reply answers spelt said more rest goes parts first packets (Some fault) pack ended = inr (record {
      fault = fault;
      can = can;
      due = due;
      failed = record { list = list; sent = sent; failed = begins.failed (pack.sent ++ pack.lost) fault pack.given };
      front = front ++ text_packet (codes "packfile") ∷ packets;
      all = parts ∙ ap (λ l. front ++ l) (first ∙ ap (λ l. text_packet (codes "packfile") ∷ l) ended.0)
          ∙ sym (append_assoc front (text_packet (codes "packfile") ∷ packets) (fatal_packet fault ∷ []));
      ended = ended.1;
    })

    pub pack_answer : (said : List Packet) (goes : Bool) → is_direct asked ≡ true → SaysSection ends goes_on gives said goes
        → SaysFetch server (MayGive packs) fails asked ends goes_on said goes
    pack_answer said goes direct says =
        after [] (inl direct) Pack
        (λ pack may. record { can = can; replies = (direct, record { list = list; sent = sent; packed = may }) })
        (pack_list ends) said said says.rest goes refl says.parts says.then.packets says.then.end says.then.pack says.then.ended

    pub ready_answer : (ids : List Id) (said : List Packet) (goes : Bool) → is_direct asked ≡ false → ids ≡ commons_of server asked
        → IsReadyFor server asked
        → SaysFirst (heading_packet ∷ map ack_packet ids) (SaysFirst (ready_packet ∷ Delim ∷ []) (SaysSection ends goes_on gives)) said goes
        → SaysFetch server (MayGive packs) fails asked ends goes_on said goes
    ready_answer ids said goes direct commons ready says =
        let pack = says.then.then.then in
        after (heading_packet ∷ (map ack_packet ids ++ ready_packet ∷ Delim ∷ [])) (inr ready) (Ready ids)
        (λ pack may. record { can = can; replies = (direct, commons, ready, record { list = list; sent = sent; packed = may }) })
        (λ pack. ap (λ l. heading_packet ∷ l) (append_assoc (map ack_packet ids) (ready_packet ∷ Delim ∷ []) (section (map data_packet (pieces pack)) ends)) ∙ ready_list ends ids pack)
        said says.then.rest says.then.then.rest goes
        (says.parts ∙ ap (λ l. heading_packet ∷ (map ack_packet ids ++ l)) says.then.parts
        ∙ ap (λ l. heading_packet ∷ l) (sym (append_assoc (map ack_packet ids) (ready_packet ∷ Delim ∷ []) says.then.rest)))
        says.then.then.parts pack.packets pack.end pack.pack pack.ended
