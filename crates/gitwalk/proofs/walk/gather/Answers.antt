use Rattle.gitwalk.specs.Entries.{ids_of}
use Rattle.gitwalk.proofs.WalkLemmas.{all_listed, entries_sent_more, gathered, keeps_on, opens, parents_decided_more, still_alone, trees_none}
use Rattle.gitwalk.proofs.walk.gather.Goals as goal

pub returns : goal.returns
returns g c =
    let entries = c.args.entries.now in let has = g.S.WalkedStore.has in let new = c.new-walk.ensures in
    let first = c.send_all.new.self in let second = c.leave_out_parents.new.self in let last = c.send_trees.new.self in
    let sent = c.in_ok-send_all.ensures in let left = c.in_ok-leave_out_parents.ensures in let walked = c.in_ok-send_trees.ensures in
    let alone = still_alone c.new-walk.result first new.received sent.received in
    let empty = trees_none c.new-walk.result first new.trees sent.trees in
    let all_sent = sent.each new.received new.fates in
    let way = left.open (opens has entries first alone empty (sent.only new.received new.fates)) in
    gathered has entries last c.laws.ensures (walked.empty (left.empty empty))
    (walked.open (entries_sent_more first.fates second.fates left.keeps entries all_sent) way)
    (entries_sent_more first.fates last.fates (keeps_on first.fates second.fates last.fates left.keeps walked.keeps) entries all_sent)
    (parents_decided_more second.fates last.fates walked.keeps entries (left.parents alone))
    (walked.walked way.alone (ids_of entries) (all_listed entries))
