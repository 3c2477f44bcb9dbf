-- Laws about answers, and about changes to a server.
use Rattle.std.proofs.Common.{◌≡◌, inl, inr, ℕ, List, [], ◌∷◌, ◌++◌, All, Contains, Result, Ok, Err, refl, sym, ap, ◌∙◌, subst, append-nil, arith}
use Rattle.std.specs.List.{IsDistinct}
use Rattle.std.specs.Str.{bytes_eq}
use Rattle.std.proofs.lemmas.List.Elements.{All-contains, All-contains_itself, All-nil, All-weaker, Contains-append_right, Contains-get_or}
use Rattle.std.proofs.lemmas.Option.{none-some}
use Rattle.gobject.specs.declared.node.Entry.{Entry}
use Rattle.gobject.specs.Packs.{PackFails, Packs}
use Rattle.gdag.specs.Laws.{CommonsAreHeld, SendingIsEnough, SentAreEntries}
use Rattle.gdag.specs.Reach.{Grows, IsConnected}
use Rattle.gdag.specs.Graphs.{Holds, IsFirstAbsent}
use Rattle.grefs.specs.declared.head.Head.{Head}
use Rattle.grequest.specs.Asked.{FetchAsked}
use Rattle.gfetchreply.specs.FetchReplies.{Acks, Ready, Pack}
use Rattle.ganswer.specs.Laws.{AcksAreCommon, AreCommon, LsAnswersAreHeld, PacksAreEnough, ServersGrow, ServesWhatIsHeld}
use Rattle.ganswer.specs.Changes.{Adds, Sets, SetsHead}
use Rattle.ganswer.specs.FetchAnswers.{commons_of, tag_tips}
use Rattle.ganswer.specs.LsAnswers.{all_refs}
use Rattle.ganswer.specs.Servers.{Server}
use Rattle.ganswer.specs.declared.fault.BuildFault.{BuildFault}
use Rattle.ganswer.specs.declared.fault.BuildFault.TheVariants as build
use Rattle.ganswer.specs.declared.fault.ServeFault.TheVariants as serve
use Rattle.gdag.proofs.Growing.{comes_grows}
use Rattle.gdag.proofs.Holding.{held_node}
use Rattle.ganswer.proofs.FitLemmas.{all_held, lines_held}

pub ls_answers_are_held : {A : Type 0} → LsAnswersAreHeld A
ls_answers_are_held server asked reply is answers =
    lines_held server asked (all_refs server) reply.lines answers.lines (all_held server is)

-- ---- fetch answers

nothing_twice : IsDistinct bytes_eq []
unfolding IsDistinct
nothing_twice = tt

module _ {A : Type 0} (law : CommonsAreHeld A) where
  commons_are_common : (server : Server A) (asked : FetchAsked) → AreCommon server asked (commons_of server asked)
  commons_are_common server asked =
      let commons = commons_of server asked in
      let each = law server.graph.entries asked.haves in record {
        once = each.0;
        offered = All-weaker (Contains commons) (Contains asked.haves) (λ a here. ((each.1 a).0 here).0) commons (All-contains_itself commons);
        held = All-weaker (Contains commons) (Holds server.graph.entries) (λ a here. ((each.1 a).0 here).1) commons (All-contains_itself commons);
      }

  are_common : (server : Server A) (asked : FetchAsked) (ids : List (List ℕ)) → ids ≡ commons_of server asked → AreCommon server asked ids
  are_common server asked ids same = subst (AreCommon server asked) (sym same) (commons_are_common server asked)

  pub acks_are_common : (packs : Packs A) → AcksAreCommon A packs
  acks_are_common packs server asked (Acks ids) answers = are_common server asked ids answers.replies.1
  acks_are_common packs server asked (Ready ids pack) answers = are_common server asked ids answers.replies.1
  acks_are_common packs server asked (Pack pack) answers = record {
    once = nothing_twice;
    offered = All-nil (Contains asked.haves);
    held = All-nil (Holds server.graph.entries);
  }

  connected_commons : (server : Server A) (asked : FetchAsked) (client : List (Entry A)) → All (IsConnected client) asked.haves → All (IsConnected client) (commons_of server asked)
  connected_commons server asked client connected =
      All-weaker (Contains asked.haves) (IsConnected client) (λ a offered. All-contains (IsConnected client) asked.haves a connected offered) (commons_of server asked)
      (commons_are_common server asked).offered

  pub packs_are_enough : SentAreEntries A → SendingIsEnough A → (packs : Packs A) → PacksAreEnough A packs
  packs_are_enough sent sending packs server asked pack is can sends =
      let g = server.graph in
      let commons = commons_of server asked in
      let tips = tag_tips server asked in
      let list = sent g sends.list asked.wants commons tips is.graph sends.sent in record {
        list = sends.list;
        packed = sends.packed;
        entries = list.1;
        graph = list.0;
        nodes = list.2;
        enough = λ client new format agree connected comes.
            sending g.entries client sends.list new asked.wants commons tips format is.graph.differ is.closed agree can.held (connected_commons server asked client connected) sends.sent comes;
      }

-- if the graph holds all wants, no want is absent
pub none_absent : {A : Type 0} (g : List (Entry A)) (wants : List (List ℕ)) (id : List ℕ) → All (Holds g) wants → IsFirstAbsent g wants id → ⊥
none_absent g wants id held first =
    let all = subst (All (Holds g)) first.parts held in
    let among = Contains-append_right first.front (id ∷ first.rest) id (Contains-get_or (id ∷ first.rest) 0 id (omega arith)) in
    let here : Holds g id = All-contains (Holds g) (first.front ++ id ∷ first.rest) id all among in
    let node = held_node g id here in
    none-some node.0 (sym first.absent ∙ node.1)

pub held_wants_are_served : {A : Type 0} → SentAreEntries A → (fails : PackFails A) → ServesWhatIsHeld A fails
held_wants_are_served sent fails server asked serve.Memory is can refused = inl refl
held_wants_are_served sent fails server asked (serve.Pack why) is can refused =
    let failed = refused.2 in
    let list = sent server.graph failed.list asked.wants (commons_of server asked) (tag_tips server asked) is.graph failed.sent in
    inr (failed.list, why, refl, list.1, failed.failed)
held_wants_are_served sent fails server asked serve.NoWants is can refused = absurd (can.some refused)
held_wants_are_served sent fails server asked (serve.NotOurs id) is can refused = absurd (none_absent server.graph.entries asked.wants id can.held refused)
held_wants_are_served sent fails server asked _ is can refused = absurd refused

-- ---- changes to a server

module _ {A : Type 0} where
  stays : (old new : Server A) → new ≡ old → Grows old.graph.entries new.graph.entries
  stays old new same = ([], ap (λ (s : Server A). s.graph.entries) same ∙ sym (append-nil old.graph.entries))

  adding : (old new : Server A) (entry : Entry A) (result : Result (Unit {0}) (BuildFault A)) → Adds old entry new result
      → (new.graph.format ≡ old.graph.format) × Grows old.graph.entries new.graph.entries
  adding old new entry (Ok done) adds = (adds.format, comes_grows old.graph.format old.graph.entries entry new.graph.entries adds.comes)
  adding old new entry (Err cause) adds = (ap (λ (s : Server A). s.graph.format) adds.0, stays old new adds.0)

  setting : (old new : Server A) (name id : List ℕ) (result : Result (Unit {0}) (BuildFault A)) → Sets old name id new result → new.graph ≡ old.graph
  setting old new name id (Ok done) sets = sets.graph
  setting old new name id (Err cause) sets = ap (λ (s : Server A). s.graph) sets.0

  setting_head : (old new : Server A) (head : Head A) (result : Result (Unit {0}) (BuildFault A)) → SetsHead old head new result → new.graph ≡ old.graph
  setting_head old new head (Ok done) sets = ap (λ (s : Server A). s.graph) sets.1
  setting_head old new head (Err build.HeadMissing) sets = ap (λ (s : Server A). s.graph) sets.0
  setting_head old new head (Err fault) sets = absurd sets

  pub servers_grow : ServersGrow A
  servers_grow = record { adding = adding; setting = setting; setting_head = setting_head }
