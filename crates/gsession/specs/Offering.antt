-- The state of the walk from the tips. The caller of a session can keep this state between two requests, so that the
-- next request continues the walk. Git's manuals do not define such a walk.
use Rattle.std.specs.Prelude.{◌≡◌, ◌++◌, ℕ, List, Option, IfSome}
use Rattle.gname.specs.Ids.{Id}
use Rattle.gobject.specs.declared.node.Entry.{Entry}
use Rattle.gobject.specs.Packs.{Indexes, IndexFails}
use Rattle.gwalk.specs.Offers.{AreOffers}
use Rattle.gwalk.specs.declared.offer.Offers.{Offers}
use Rattle.gclientrepo.specs.Repos.{RepoState}
use Rattle.gfetchreply.specs.FetchReplies.{FetchReply}
use Rattle.gsession.specs.Sessions.{SessionState, IsSession}
use Rattle.gsession.specs.TakingReplies.{TakesRead}
use Rattle.gsession.specs.declared.taken.Taken.TheVariants.{Round}

-- the walk began at the tips of the session, and has processed a prefix of the session's common ids
pub record AreOffersOf {A : Type 0} (s : SessionState A) (g : List (Entry A)) (offers : Offers A) : Type 0 where
  pub heard : List Id
  pub rest : List Id
  pub commons : s.commons ≡ heard ++ rest
  pub are : AreOffers g s.tips heard s.sent offers

-- the walk of a session remains valid after a reply with only acknowledgments
abbrev pub OffersStay : {A : Type 0} → Indexes A → IndexFails → Type 0
OffersStay {A} indexes index_fails =
    (haves : List Id) (old new : SessionState A) (repo after : RepoState A) (reply : FetchReply) (common : ℕ)
    (g : List (Entry A)) (offers : Option (Offers A)) → IsSession old
    → TakesRead indexes index_fails haves old repo reply new after (Round common)
    → IfSome offers (AreOffersOf old g) → IfSome offers (AreOffersOf new g)
