-- The session of a plain fetch: it stays valid, and makes well-formed requests.
use Rattle.std.proofs.Common.{[], ◌++◌, ◌≡◌, ◌∙◌, ◌≤◌, ◌+◌, ℕ, Bool, true, false, if◌then◌else◌, List, length, map}
use Rattle.std.proofs.Common.{All, Some, None, Ok, refl, sym, ap, subst, arith, append-nil}
use Rattle.std.specs.Prelude.{nat_le}
use Rattle.std.specs.List.{IsDistinct}
use Rattle.std.specs.Str.{bytes_eq}
use Rattle.std.proofs.lemmas.Bool.{leb-true}
use Rattle.std.proofs.lemmas.Cmp.{nat_list_eq_equiv}
use Rattle.std.proofs.lemmas.List.Elements.{All-map, All-nil}
use Rattle.std.proofs.lemmas.List.{length-map}
use Rattle.std.proofs.lemmas.Map.Made.{length-le_from_is_member}
use Rattle.gname.specs.Ids.{IsIdOf}
use Rattle.gname.specs.Laws.{IdsHaveOneFormat}
use Rattle.gname.specs.Names.{IsPrefix}
use Rattle.gname.specs.declared.formats.Format.{Format}
use Rattle.gpkt.specs.Packets.{Packet}
use Rattle.ggrammar.specs.Limits.{profile}
use Rattle.ggrammar.specs.declared.ends.Ends.TheVariants.{Plain}
use Rattle.ggrammar.specs.declared.limits.Limits.{Limits}
use Rattle.gobject.specs.Packs.{Indexes, IndexFails}
use Rattle.gobject.specs.declared.node.Entry.{Entry}
use Rattle.gdag.proofs.IdLists.{any_from_contains, contains_from_any, either_way}
use Rattle.gdag.specs.Graphs.{History, IsGraph}
use Rattle.gdag.specs.Laws.{DistinctAreOnce, OffersAreExact, PositionsAreNodes}
use Rattle.gdag.specs.Levels.{distinct_of}
use Rattle.grefs.specs.Refspecs.{Refspec}
use Rattle.glsreply.specs.LsReplies.{LsReply}
use Rattle.glsreply.specs.WellFormed.{IsRefLine}
use Rattle.gfetchreply.specs.FetchHeads.{acknowledged_by}
use Rattle.gfetchreply.specs.FetchReplies.{FetchReply, Says}
use Rattle.grequest.specs.Asked.{Asked, Empty, Ls, Fetches, FetchAsked, LsRefsAsked, is_direct, max_haves}
use Rattle.grequest.specs.Asked.{max_wants}
use Rattle.grequest.specs.WellFormed.{IsAgent, IsAsked, IsLsRefsAsked}
use Rattle.gclientrepo.specs.Repos.{RepoState}
use Rattle.gsession.proofs.AskLemmas.{asked_have_ids}
use Rattle.gsession.proofs.CallLemmas.{due_idle, says_pack}
use Rattle.gsession.proofs.CommonLemmas.{all_distinct, offer_fits, want_ids}
use Rattle.gsession.proofs.ReplyLemmas.{are_commons}
use Rattle.gsession.proofs.SessionLemmas.{acks_taken, objects_asked, open_fetch, pack_taken, refs_taken}
use Rattle.gsession.specs.Asking.{asked_of}
use Rattle.gsession.specs.Requesting.{IsBatch, Requests, batch_size, fetch_request, ls_request, waiting_for}
use Rattle.gsession.specs.Sessions.{IsSession, SessionState, max_specs, over}
use Rattle.gsession.specs.TakingRefs.{AwaitsRefs, TakesLines, stage_for}
use Rattle.gsession.specs.TakingReplies.{Awaits, HasPack, TakesRead, reading_for}
use Rattle.gsession.specs.declared.stage.Stage.TheVariants.{Fetching, Listing, Over}
use Rattle.gsession.specs.declared.taken.LsTaken.{LsTaken}
use Rattle.gsession.specs.declared.taken.Taken.{Taken}
use Rattle.gsession.specs.declared.taken.Taken.TheVariants.{PackTaken, Round}
use Rattle.gsession.specs.steps.Calls.{FitsBatch}
use Rattle.gjoined.proofs.Sources.{AreSources}

-- the laws of ids and graphs
pub record SessionLaws (A : Type 0) : Type 0 where
  pub once : DistinctAreOnce
  pub places : PositionsAreNodes A
  pub formats : IdsHaveOneFormat
  pub exact : OffersAreExact A

few_distinct : DistinctAreOnce → (ids : List (List ℕ)) → length (distinct_of ids) ≤ length ids
few_distinct law ids =
    length-le_from_is_member nat_list_eq_equiv (distinct_of ids) ids (law ids).once
    (λ a there. any_from_contains ids a (((law ids).same a).0 (contains_from_any (distinct_of ids) a there)))

ls_well : DistinctAreOnce → (specs : List Refspec) (unborn : Bool) → AreSources specs → length specs ≤ max_specs
    → IsLsRefsAsked profile (ls_request specs unborn)
ls_well law specs unborn sources few =
    let prefixes : List (List ℕ) = map (λ (spec : Refspec). spec.source) specs in record {
      agent = tt;
      prefixes = all_distinct law IsPrefix prefixes (All-map IsPrefix (λ (spec : Refspec). spec.source) specs sources);
      few = omega (arith, few, few_distinct law prefixes, length-map specs (λ (spec : Refspec). spec.source));
    }

not_direct : (direct : Bool) (has : Type 0) → (direct ≡ true → has) → ¬ has → direct ≡ false
not_direct true has all none = absurd (none (all refl))
not_direct false has all none = refl

over_fetches : Over ≡ Fetching → ⊥
over_fetches same = cc

module _ {A : Type 0} where
  -- a valid session of a plain fetch with these refspecs, in this format
  pub record IsPlain (format : Format) (specs : List Refspec) (s : SessionState A) : Type 0 where
    pub session : IsSession s
    pub format_is : s.format ≡ format
    pub ends_are : s.ends ≡ Plain
    pub limits_are : s.options.limits ≡ profile
    pub specs_are : s.refspecs ≡ specs

  -- ---- the next request

  no_batch : (s : SessionState A) → IsSession s → FitsBatch s []
  no_batch s is = record {
    ids = All-nil (IsIdOf s.format);
    room = omega (arith, is.commons.few);
    fresh = subst (IsDistinct bytes_eq) (sym (append-nil s.sent)) is.sent;
  }

  fits_batch : SessionLaws A → (s : SessionState A) (g : History A) (batch : List (List ℕ)) → IsSession s → IsGraph g
      → IsBatch s g.entries batch → FitsBatch s batch
  fits_batch laws s g batch is graph b =
      let pick : Bool → List (List ℕ) = λ fits. if fits then b.offer else [] in
      either_way (nat_le (length s.commons + length b.offer) (max_haves s.options.limits))
      (λ fits. subst (FitsBatch s) (sym (b.is ∙ ap pick fits))
      (offer_fits laws.exact laws.places laws.formats s g (batch_size s.options.max_batch s.rounds) b.offer is graph
      b.offered (leb-true _ _ fits)))
      (λ over. subst (FitsBatch s) (sym (b.is ∙ ap pick over)) (no_batch s is))

  -- the session made a well-formed request, which is now open
  pub record HasAsked (format : Format) (specs : List Refspec) (asked : Asked) (waiting : SessionState A) : Type 0 where
    pub plain : IsPlain format specs waiting
    pub waits : waiting.pending ≡ Some asked
    pub well : IsAsked profile format asked

  -- a session that asks for refs stays valid
  refs_asked : (s : SessionState A) (asked : LsRefsAsked) → IsSession s → s.stage ≡ Listing → s.pending ≡ None
      → IsSession (record s { pending = Some (Ls asked) })
  refs_asked s asked is stage idle =
      let none : s.rounds ≡ 0 = rw (stage, idle) at is.stage in record {
        few_specs = is.few_specs;
        tips = is.tips;
        wants = is.wants;
        few_wants = is.few_wants;
        commons = is.commons;
        sent = is.sent;
        rounds = is.rounds;
        some = is.some;
        stage = rw stage none;
      }

  pub asks_well : SessionLaws A → (format : Format) (specs : List Refspec) (s waiting : SessionState A) (g : History A)
      (asked : Asked) → IsPlain format specs s → IsGraph g → AreSources specs
      → Requests s g.entries waiting (Ok asked) → HasAsked format specs asked waiting
  asks_well laws format specs s waiting g Empty plain graph sources (due, made) = absurd made.1
  asks_well laws format specs s waiting g (Ls asked) plain graph sources (due, made) =
      let idle = (due_idle s.stage s.pending due).0 in
      let few : length specs ≤ max_specs = subst (λ (l : List Refspec). length l ≤ max_specs) plain.specs_are plain.session.few_specs in
      let is : asked ≡ ls_request specs s.offers_unborn =
      made.1.1 ∙ ap (λ (l : List Refspec). ls_request l s.offers_unborn) plain.specs_are in
      let after : waiting ≡ record s { pending = Some (Ls asked) } = made.2 in record {
        plain = subst (IsPlain format specs) (sym after) (record {
          session = refs_asked s asked plain.session made.1.0 idle;
          format_is = plain.format_is;
          ends_are = plain.ends_are;
          limits_are = plain.limits_are;
          specs_are = plain.specs_are;
        });
        waits = ap (λ (x : SessionState A). x.pending) after;
        well = subst (IsLsRefsAsked profile) (sym is) (ls_well laws.once specs s.offers_unborn sources few);
      }
  asks_well laws format specs s waiting g (Fetches asked) plain graph sources (due, made) =
      let idle = (due_idle s.stage s.pending due).0 in
      let batch = made.0 in
      let is : asked ≡ fetch_request s.options s.wants s.commons batch = made.1.1 in
      let after : waiting ≡ waiting_for s (Fetches asked) batch = made.2 in
      let session : IsSession (waiting_for s (Fetches asked) batch) =
      objects_asked s batch (s.sent ++ batch) (Some (Fetches asked)) plain.session made.1.0 idle
      (fits_batch laws s g batch plain.session graph made.1.2)
      (ap (λ (a : FetchAsked). Some (Fetches a)) is) refl in
      let opened = open_fetch (waiting_for s (Fetches asked) batch) asked session refl in record {
        plain = subst (IsPlain format specs) (sym after) (record {
          session = session;
          format_is = plain.format_is;
          ends_are = plain.ends_are;
          limits_are = plain.limits_are;
          specs_are = plain.specs_are;
        });
        waits = ap (λ (x : SessionState A). x.pending) after;
        well = record {
          agent = subst (λ (a : FetchAsked). IsAgent a.agent) (sym is) tt;
          wants = subst (λ (f : Format). All (IsIdOf f) asked.wants) plain.format_is
              (subst (All (IsIdOf s.format)) (sym opened.wants) plain.session.wants);
          haves = subst (λ (f : Format). All (IsIdOf f) asked.haves) plain.format_is opened.ids;
          few_wants = subst (λ (l : Limits). length asked.wants ≤ max_wants l) plain.limits_are
              (subst (λ (ids : List (List ℕ)). length ids ≤ max_wants s.options.limits) (sym opened.wants)
              plain.session.few_wants);
          few_haves = subst (λ (l : Limits). length asked.haves ≤ max_haves l) plain.limits_are opened.few;
        };
      }

  -- ---- the reply

  -- a session that accepts an ls-refs reply with valid lines stays valid
  pub refs_keep : SessionLaws A → (format : Format) (specs : List Refspec) (s after : SessionState A)
      (g : List (Entry A)) (reply : LsReply) (taken : LsTaken A) → IsPlain format specs s → AwaitsRefs s
      → All (IsRefLine format) reply.lines → TakesLines s g reply after taken → IsPlain format specs after
  refs_keep laws format specs s after g reply taken plain waits lines takes =
      let asks = asked_of s.refspecs reply.lines in
      let valid : All (IsRefLine s.format) reply.lines =
      subst (λ (f : Format). All (IsRefLine f) reply.lines) (sym plain.format_is) lines in
      let ids = asked_have_ids s.refspecs reply.lines asks refl s.format valid in
      subst (IsPlain format specs) (sym takes.after) (record {
        session = refs_taken s asks takes.wants (stage_for takes.wants) plain.session waits
            (want_ids laws.once g asks takes.wants takes.wanted s.format ids) takes.few refl;
        format_is = plain.format_is;
        ends_are = plain.ends_are;
        limits_are = plain.limits_are;
        specs_are = plain.specs_are;
      })

  -- a session that accepts a fetch reply stays valid
  pub objects_keep : SessionLaws A → (indexes : Indexes A) (index_fails : IndexFails) (format : Format)
      (specs : List Refspec) (s after : SessionState A) (repo new : RepoState A) (asked : FetchAsked)
      (lines : List Packet) (reply : FetchReply) (taken : Taken) → IsPlain format specs s → Awaits s asked
      → Says (reading_for s asked) lines reply
      → TakesRead indexes index_fails asked.haves s repo reply after new taken → IsPlain format specs after
  objects_keep laws indexes index_fails format specs s after repo new asked lines reply (Round common) plain waits says takes =
      let acks = acknowledged_by reply in
      let commons = distinct_of (s.commons ++ acks) in
      let direct : is_direct asked ≡ false = not_direct (is_direct asked) (HasPack reply)
      (λ yes. says_pack (reading_for s asked) lines reply yes says.says) takes.1.0 in
      subst (IsPlain format specs) (sym takes.1.1) (record {
        session = acks_taken s asked commons plain.session waits direct
            (are_commons s asked acks commons laws.once (open_fetch s asked plain.session waits) takes.0 refl);
        format_is = plain.format_is;
        ends_are = plain.ends_are;
        limits_are = plain.limits_are;
        specs_are = plain.specs_are;
      })
  objects_keep laws indexes index_fails format specs s after repo new asked lines reply (PackTaken added) plain waits says takes =
      let acks = acknowledged_by reply in
      let commons = distinct_of (s.commons ++ acks) in
      subst (IsPlain format specs) (sym takes.1.1) (record {
        session = pack_taken s commons plain.session
            (are_commons s asked acks commons laws.once (open_fetch s asked plain.session waits) takes.0 refl);
        format_is = plain.format_is;
        ends_are = plain.ends_are;
        limits_are = plain.limits_are;
        specs_are = plain.specs_are;
      })

  -- ---- the end of the session

  -- a session that is over is valid
  pub over_session : (s : SessionState A) → IsSession s → IsSession (over s)
  over_session s is = record {
    few_specs = is.few_specs;
    tips = is.tips;
    wants = is.wants;
    few_wants = is.few_wants;
    commons = is.commons;
    sent = is.sent;
    rounds = is.rounds;
    some = λ fetching. absurd (over_fetches fetching);
    stage = tt;
  }

  -- a session that has settled is valid
  pub settled_session : (s : SessionState A) → IsSession s → IsSession (record (over s) { asks = [] })
  settled_session s is = record {
    few_specs = is.few_specs;
    tips = is.tips;
    wants = is.wants;
    few_wants = is.few_wants;
    commons = is.commons;
    sent = is.sent;
    rounds = is.rounds;
    some = λ fetching. absurd (over_fetches fetching);
    stage = tt;
  }
