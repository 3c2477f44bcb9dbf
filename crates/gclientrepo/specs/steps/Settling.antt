-- The steps of settling, one requested update at a time.
use Rattle.std.specs.Prelude.{◌≡◌, ◌+◌, List, length, count_by}
use Rattle.gobject.specs.declared.node.Entry.{Entry}
use Rattle.grefs.specs.RefLists.{RefList, SetsRef}
use Rattle.gclientrepo.specs.Settling.{IsUpdate, Settles, is_new}
use Rattle.gclientrepo.specs.declared.ask.Ask.{Ask}
use Rattle.gclientrepo.specs.declared.ask.RefUpdate.{RefUpdate}
use Rattle.gclientrepo.specs.declared.ask.RefUpdate.TheVariants.{Moved, Same, NotForward}

-- the requested updates are settled, and the number of refs grew by the number of requested new refs
pub record HasSettled {A : Type 0} (g : List (Entry A)) (old : RefList) (asks : List (Ask A))
    (updates : List RefUpdate) (new : RefList) : Type 0 where
  pub settles : Settles g old asks updates new
  pub count : length new ≡ length old + count_by (is_new old) asks

-- the change of the refs by one requested update, given its outcome
abbrev pub Sets : {A : Type 0} → RefUpdate → RefList → Ask A → RefList → Type 0
Sets Moved before ask after = SetsRef before after ask.name ask.id
Sets Same before ask after = after ≡ before
Sets NotForward before ask after = after ≡ before

-- one requested update is settled: its outcome depends on the old refs, and determines the change of the refs
abbrev pub TakesAsk : {A : Type 0} → List (Entry A) → RefList → Ask A → RefList → RefList → RefUpdate → Type 0
TakesAsk g old ask before after update = IsUpdate g old ask update × Sets update before ask after
