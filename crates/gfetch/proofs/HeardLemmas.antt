-- A message of the client, with one more packet.
use Rattle.std.proofs.Common.{◌≡◌, ◌<◌, ◌^◌, ◌⊎◌, ◌∙◌, refl, Bool, false, List, [], ◌∷◌, ◌++◌, length, Option, Some, None, Result, Ok, Err, sym, subst}
use Rattle.gname.specs.Ids.{Id}
use Rattle.gpkt.specs.Packets.{Bytes, Packet}
use Rattle.ggrammar.specs.Grammar.{IsOpen, IsWhole, Judge}
use Rattle.ggrammar.specs.MessageReading.{TakesPacket}
use Rattle.ggrammar.specs.declared.fault.Why.{Why}
use Rattle.ggrammar.specs.declared.message.Step.{Step}
use Rattle.ggrammar.specs.declared.message.Step.TheVariants as step
use Rattle.ghello.specs.Adverts as advert
use Rattle.ghello.specs.declared.advert.AdvertReader.{AdvertReader}
use Rattle.ghello.specs.steps.AdvertReading.{IsKept}
use Rattle.glsreply.specs.LsReplies as ls
use Rattle.glsreply.specs.declared.reader.LsReplyReader.{LsReplyReader}
use Rattle.glsreply.specs.steps.ReplyState.{Holds}
use Rattle.gfetchreply.specs.FetchReplies as fetch
use Rattle.gfetchreply.specs.FetchReplies.{Reading, brings_into}
use Rattle.gname.specs.declared.formats.Format.{Format}
use Rattle.ggrammar.specs.declared.ends.Ends.{Ends}
use Rattle.gdialogue.specs.Sides.{HearsPacket}
use Rattle.ghello.proofs.Manual as advert_proofs
use Rattle.glsreply.proofs.TableLemmas as ls_proofs
use Rattle.gfetchreply.proofs.ReplyEndings as fetch_proofs
use Rattle.grequest.specs.Asked.{Asked, Empty, Ls, Fetches, FetchAsked, LsRefsAsked}
use Rattle.gobject.specs.Packs.{Indexes, IndexFails}
use Rattle.gsession.specs.Readers.{HoldsObjects}
use Rattle.gsession.specs.Sessions.{SessionState, IsBegun}
use Rattle.gsession.specs.TakingReplies.{Awaits, AwaitsObjects, reading_for}
use Rattle.gsession.specs.declared.reader.ObjectsReader.{ObjectsReader}
use Rattle.gfetch.specs.Fetching.{AcceptsReply, AnswersAdvert, AnswersAfter, DeclinesReply, MismatchesAdvert}
use Rattle.gfetch.specs.declared.side.ClientSide.{ClientSide}
use Rattle.gfetch.specs.Heard.{HearsAfter, brings_after, judge_after}
use Rattle.gfetch.specs.declared.heard.Heard.{Heard}
use Rattle.gfetch.specs.declared.heard.Heard.TheVariants as heard

-- each open list of packets is short
pub open_is_short : {A : Type 0} (session : SessionState A) (pending : Option Asked) (front : List Packet)
    → IsOpen (judge_after session pending) front → length front < 2 ^ 60
open_is_short session None front goes = advert_proofs.open_is_short front goes
open_is_short session (Some Empty) front goes = advert_proofs.open_is_short front goes
open_is_short session (Some (Ls asked)) front goes = ls_proofs.is_bounded session.format session.ends front goes
open_is_short session (Some (Fetches asked)) front goes = fetch_proofs.open_is_short (reading_for session asked) front goes

-- a message accepts a packet as its reader does
pub takes_into : {M N : Type 0} (judge : Judge) (brings : List Packet → Packet → Bool) (holds left : M → List Packet → Type 0) (hears : N → List Packet → Type 0)
    (front : List Packet) (packet : Packet) (new : M) (now : N) (result : Result Step Why) → TakesPacket judge brings holds left front packet new result
    → (holds new (front ++ packet ∷ []) → hears now (front ++ packet ∷ [])) → HearsPacket judge brings hears front packet now result
takes_into judge brings holds left hears front packet new now (Ok step.Open) h into = (h.0, into h.1)
takes_into judge brings holds left hears front packet new now (Ok step.Whole) h into = (h.0, into h.1)
takes_into judge brings holds left hears front packet new now (Err why) h into = (h.0, tt)

module _ {A F : Type 0} (session : SessionState A) (fed : F → Bytes → Type 0) (index_fails : IndexFails)
    (front : List Packet) (packet : Packet) (result : Result Step Why) where
  abbrev HearsIt : Option Asked → Heard A F → Type 0
  HearsIt pending now = HearsPacket (judge_after session pending) (brings_after session pending) (HearsAfter session fed index_fails pending) front packet now result

  abbrev TakesAdvert : AdvertReader A → AdvertReader A → Type 0
  TakesAdvert old new = IsOpen advert.judge front → IsKept front old.has_version old.advert
      → TakesPacket advert.judge advert.brings (λ (r : AdvertReader A) packets. IsKept packets r.has_version r.advert) (λ r packets. Unit {0}) front packet new result

  pub hears_advert : (pending : Option Asked) (old new : AdvertReader A) → IsOpen (judge_after session pending) front
      → HearsAfter session fed index_fails pending (heard.Advert old) front → TakesAdvert old new → HearsIt pending (heard.Advert new)
  hears_advert None old new goes held takes =
      takes_into advert.judge advert.brings (λ (r : AdvertReader A) packets. IsKept packets r.has_version r.advert) (λ r packets. Unit {0})
      (HearsAfter session fed index_fails None) front packet new (heard.Advert new) result (takes goes held) (λ k. k)
  hears_advert (Some Empty) old new goes held takes =
      takes_into advert.judge advert.brings (λ (r : AdvertReader A) packets. IsKept packets r.has_version r.advert) (λ r packets. Unit {0})
      (HearsAfter session fed index_fails (Some Empty)) front packet new (heard.Advert new) result (takes goes held) (λ k. k)
  hears_advert (Some (Ls asked)) old new goes held takes = absurd held
  hears_advert (Some (Fetches asked)) old new goes held takes = absurd held

  abbrev TakesRefs : Format → Ends → LsReplyReader A → LsReplyReader A → Type 0
  TakesRefs format ends old new = IsOpen (ls.judge format ends) front → Holds old front
      → TakesPacket (ls.judge format ends) ls.brings Holds (λ reply packets. Unit {0}) front packet new result

  pub hears_refs : (pending : Option Asked) (old new : LsReplyReader A) → IsOpen (judge_after session pending) front
      → HearsAfter session fed index_fails pending (heard.Refs old) front → new.format ≡ old.format → new.ends ≡ old.ends
      → TakesRefs old.format old.ends old new → HearsIt pending (heard.Refs new)
  hears_refs None old new goes held format ends takes = absurd held
  hears_refs (Some Empty) old new goes held format ends takes = absurd held
  hears_refs (Some (Ls asked)) old new goes held format ends takes =
      let there = subst (λ (e : Ends). TakesRefs session.format e old new) held.1 (subst (λ (f : Format). TakesRefs f old.ends old new) held.0 takes) in
      takes_into (ls.judge session.format session.ends) ls.brings Holds (λ reply packets. Unit {0})
      (HearsAfter session fed index_fails (Some (Ls asked))) front packet new (heard.Refs new) result (there goes held.2)
      (λ k. (format ∙ held.0, ends ∙ held.1, k))
  hears_refs (Some (Fetches asked)) old new goes held format ends takes = absurd held

  abbrev TakesObjects : ObjectsReader F A → ObjectsReader F A → Type 0
  TakesObjects old new = (reading : Reading) → IsOpen (fetch.judge reading) front → HoldsObjects fed index_fails reading old front
      → TakesPacket (fetch.judge reading) (brings_into false reading) (HoldsObjects fed index_fails reading) (λ reader packets. Unit {0}) front packet new result

  pub hears_objects : (pending : Option Asked) (old new : ObjectsReader F A) → IsOpen (judge_after session pending) front
      → HearsAfter session fed index_fails pending (heard.Objects old) front → TakesObjects old new → HearsIt pending (heard.Objects new)
  hears_objects None old new goes held takes = absurd held
  hears_objects (Some Empty) old new goes held takes = absurd held
  hears_objects (Some (Ls asked)) old new goes held takes = absurd held
  hears_objects (Some (Fetches asked)) old new goes held takes =
      let reading = reading_for session asked in
      takes_into (fetch.judge reading) (brings_into false reading) (HoldsObjects fed index_fails reading) (λ reader packets. Unit {0})
      (HearsAfter session fed index_fails (Some (Fetches asked))) front packet new (heard.Objects new) result (takes reading goes held) (λ k. k)

-- ---- a message before its first packet

module _ {A F : Type 0} (session : SessionState A) (fed : F → Bytes → Type 0) (index_fails : IndexFails) where
  pub first_advert : (pending : Option Asked) (reader : AdvertReader A) → ¬ ((asked : LsRefsAsked) × (pending ≡ Some (Ls asked)))
      → ¬ ((asked : FetchAsked) × (pending ≡ Some (Fetches asked))) → IsKept [] reader.has_version reader.advert
      → HearsAfter session fed index_fails pending (heard.Advert reader) []
  first_advert None reader none no_more kept = kept
  first_advert (Some Empty) reader none no_more kept = kept
  first_advert (Some (Ls asked)) reader none no_more kept = absurd (none (asked, refl))
  first_advert (Some (Fetches asked)) reader none no_more kept = absurd (no_more (asked, refl))

  pub first_refs : (pending : Option Asked) (asked : LsRefsAsked) (reader : LsReplyReader A) → pending ≡ Some (Ls asked)
      → reader.format ≡ session.format → reader.ends ≡ session.ends → Holds reader []
      → HearsAfter session fed index_fails pending (heard.Refs reader) []
  first_refs pending asked reader is format ends held =
      subst (λ (p : Option Asked). HearsAfter session fed index_fails p (heard.Refs reader) []) (sym is) (format, ends, held)

  pub first_objects : (pending : Option Asked) (asked : FetchAsked) (reader : ObjectsReader F A) → pending ≡ Some (Fetches asked)
      → HoldsObjects fed index_fails (reading_for session asked) reader []
      → HearsAfter session fed index_fails pending (heard.Objects reader) []
  first_objects pending asked reader is held =
      subst (λ (p : Option Asked). HearsAfter session fed index_fails p (heard.Objects reader) []) (sym is) held

-- ---- a complete message

module _ {A K F : Type 0} (indexes : Indexes A) (index_fails : IndexFails) (keeps : K → Id → Type 0) (fed : F → Bytes → Type 0)
    (old new : ClientSide A K) (lines said : List Packet) (goes : Bool) where
  abbrev Answered : Option Asked → Type 0
  Answered pending = AnswersAfter indexes index_fails keeps pending old new lines said goes

  abbrev Hears : Option Asked → Heard A F → Type 0
  Hears pending message = HearsAfter old.client.session fed index_fails pending message lines

  pub advert_answered : (pending : Option Asked) (reader : AdvertReader A) → IsWhole (judge_after old.client.session pending) lines
      → Hears pending (heard.Advert reader)
      → (advert.Says lines reader.advert → IsBegun old.client.session → AnswersAdvert old new lines said goes ⊎ MismatchesAdvert old new lines said goes)
      → Answered pending
  advert_answered None reader whole held answers = answers (record { whole = whole; says = held.listed })
  advert_answered (Some Empty) reader whole held answers = tt
  advert_answered (Some (Ls asked)) reader whole held answers = absurd held
  advert_answered (Some (Fetches asked)) reader whole held answers = absurd held

  abbrev Replied : Asked → Type 0
  Replied asked = AcceptsReply indexes index_fails asked old new lines said goes
      ⊎ DeclinesReply indexes index_fails asked old new lines said goes

  pub refs_answered : (pending : Option Asked) (reader : LsReplyReader A) → old.client.session.pending ≡ pending
      → IsWhole (judge_after old.client.session pending) lines → Hears pending (heard.Refs reader)
      → ((asked : LsRefsAsked) → old.client.session.pending ≡ Some (Ls asked) → Holds reader lines → IsWhole (ls.judge old.client.session.format old.client.session.ends) lines → Replied (Ls asked))
      → Answered pending
  refs_answered None reader is whole held answers = absurd held
  refs_answered (Some Empty) reader is whole held answers = absurd held
  refs_answered (Some (Ls asked)) reader is whole held answers = answers asked is held.2 whole
  refs_answered (Some (Fetches asked)) reader is whole held answers = absurd held

  pub objects_answered : (pending : Option Asked) (reader : ObjectsReader F A) → old.client.session.pending ≡ pending
      → IsWhole (judge_after old.client.session pending) lines → Hears pending (heard.Objects reader)
      → ((asked : FetchAsked) → Awaits old.client.session asked → HoldsObjects fed index_fails (reading_for old.client.session asked) reader lines
      → IsWhole (fetch.judge (reading_for old.client.session asked)) lines → Replied (Fetches asked))
      → Answered pending
  objects_answered None reader is whole held answers = absurd held
  objects_answered (Some Empty) reader is whole held answers = absurd held
  objects_answered (Some (Ls asked)) reader is whole held answers = absurd held
  objects_answered (Some (Fetches asked)) reader is whole held answers = answers asked is held whole

  -- the reader of a fetch reply belongs to a session that waits for this reply
  pub objects_awaited : (pending : Option Asked) (reader : ObjectsReader F A) → old.client.session.pending ≡ pending → Hears pending (heard.Objects reader)
      → AwaitsObjects old.client.session
  objects_awaited None reader is held = absurd held
  objects_awaited (Some Empty) reader is held = absurd held
  objects_awaited (Some (Ls asked)) reader is held = absurd held
  objects_awaited (Some (Fetches asked)) reader is held = (asked, is)
