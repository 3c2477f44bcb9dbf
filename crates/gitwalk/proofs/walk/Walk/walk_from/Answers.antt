use Rattle.std.proofs.Common.{inr}
use Rattle.gcomplete.specs.Stores.{object_of}
use Rattle.gitwalk.specs.Entries.{ids_of}
use Rattle.gitwalk.specs.Gathering.{is_sent}
use Rattle.gitwalk.proofs.WalkLemmas.{goes_on, keeps_on, walked_more, walked_now}
use Rattle.gitwalk.proofs.walk.Walk.walk_from.Goals as goal

pub returns-clause-keeps : goal.returns-clause-keeps
returns-clause-keeps g c =
    keeps_on c.args.self.now.fates c.walk_object.new.self.fates c.walk_trees.new.self.fates c.in_ok-walk_object.ensures.notes.keeps c.in_ok-walk_trees.ensures.keeps

pub returns-clause-open : goal.returns-clause-open
returns-clause-open g c entries root way =
    let object = c.in_ok-object.object in let walk = c.in_ok-walk_object.ensures in
    c.in_ok-walk_trees.ensures.open entries
    (goes_on g.S.WalkedStore.has g.S.WalkedStore.located entries (ids_of entries) c.args.self.now c.walk_object.new.self c.args.id.now
    (object_of object.kind object.body.items) walk.links c.args.fate c.in_ok-object.ensures walk.follows root walk.notes way)

pub returns-clause-walked : goal.returns-clause-walked
returns-clause-walked g c alone listed among =
    let object = c.in_ok-object.object in let walk = c.in_ok-walk_object.ensures in
    walked_more g.S.WalkedStore.has listed c.walk_object.new.self.fates c.walk_trees.new.self.fates c.in_ok-walk_trees.ensures.keeps c.args.id.now
    (walked_now g.S.WalkedStore.has g.S.WalkedStore.located listed c.args.self.now c.walk_object.new.self c.args.id.now (object_of object.kind object.body.items) walk.links
    (is_sent c.args.fate) c.in_ok-object.ensures walk.follows (inr among) walk.notes alone)
