use Rattle.std.proofs.Common.{inl, inr, refl, subst, sym}
use Rattle.ghello.specs.Adverts as advert
use Rattle.gfetch.proofs.HeardLemmas.{advert_answered, objects_answered, objects_awaited, refs_answered}
use Rattle.gfetch.proofs.SideLemmas.{objects_stay}
use Rattle.gfetch.proofs.side.ClientSideSideHeardFeedClientReply.answer.Goals as goal

pub returns-in-Advert-clause-answers : goal.returns-in-Advert-clause-answers
returns-in-Advert-clause-answers g c = λ lines said goes whole hears may.
    let k = g.K.KeepingIndexer in
    let old = c.args.self.now in
    let new = c.answer_advert.new.self in record {
      answers = advert_answered k.indexes k.index_fails k.keeps k.fed old new lines said goes old.client.session.pending c.in-Advert.reader whole
          (rw c.in-Advert.is at hears)
          (λ says begun. c.answer_advert.ensures.answers lines said goes (subst (λ a. advert.Says lines a) (sym c.finish-advert.ensures) says) begun may);
      indexer = objects_stay k.keeps old new c.answer_advert.ensures.stays;
      changed = inr c.answer_advert.ensures.stays.indexer.value;
    }

pub returns-in-Refs-clause-answers : goal.returns-in-Refs-clause-answers
returns-in-Refs-clause-answers g c = λ lines said goes whole hears may.
    let k = g.K.KeepingIndexer in
    let old = c.args.self.now in
    let new = c.answer_refs.new.self in record {
      answers = refs_answered k.indexes k.index_fails k.keeps k.fed old new lines said goes old.client.session.pending c.in-Refs.reader refl whole
          (rw c.in-Refs.is at hears)
          (λ asked waits held all. c.answer_refs.ensures.answers asked lines said goes waits held all may);
      indexer = objects_stay k.keeps old new c.answer_refs.ensures.stays;
      changed = inr c.answer_refs.ensures.stays.indexer.value;
    }

pub returns-in-Objects-clause-answers : goal.returns-in-Objects-clause-answers
returns-in-Objects-clause-answers g c = λ lines said goes whole hears may.
    let k = g.K.KeepingIndexer in
    let old = c.args.self.now in
    let new = c.answer_objects.new.self in
    let held = rw c.in-Objects.is at hears in record {
      answers = objects_answered k.indexes k.index_fails k.keeps k.fed old new lines said goes old.client.session.pending c.in-Objects.reader refl whole held
          (λ asked waits holds all. c.answer_objects.ensures.answers asked lines said goes waits holds all may);
      indexer = c.answer_objects.ensures.keeps;
      changed = inl (objects_awaited k.indexes k.index_fails k.keeps k.fed old new lines said goes old.client.session.pending c.in-Objects.reader refl held);
    }
