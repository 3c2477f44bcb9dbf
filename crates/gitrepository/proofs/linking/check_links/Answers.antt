use Rattle.std.proofs.Common.{All, refl, subst, sym}
use Rattle.std.proofs.lemmas.Result.{IfOk-weaker}
use Rattle.gname.specs.Ids.{Id}
use Rattle.gitrepository.specs.Received.{AreLinked, IsInReceived}
use Rattle.gitrepository.specs.steps.Arriving.{AreReadObjects, IsInIndex, IsReadEntry, IsRecorded}
use Rattle.gitrepository.proofs.LinkLemmas.{all_linked, recorded_in}
use Rattle.gitrepository.proofs.linking.check_links.Goals as goal

pub returns-clause-linked : goal.returns-clause-linked
returns-clause-linked g c =
    let needs = c.args.needs.now in let pack = c.args.pack.now in
    let read : All (IsReadEntry needs) pack =
    c.if-not-were_read.ensures.read refl needs (subst (AreReadObjects needs) (sym c.as_slice.ensures.value) (c.sorted-objects.ensures.read needs c.requires)) in
    IfOk-weaker c.check_needs.result _ (λ links. AreLinked links.items pack) (λ links leads. all_linked links.items pack needs read leads) c.check_needs.ensures.leads

pub returns-clause-recorded : goal.returns-clause-recorded
returns-clause-recorded g c =
    let needs = c.args.needs.now in let pack = c.args.pack.now in let objects = c.args.objects.items in
    let sorted = c.sorted-objects.result.items in
    let indexed : All (IsInIndex pack) sorted = subst (All (IsInIndex pack)) c.as_slice.ensures.value (c.if-not-were_read.ensures.indexed refl) in
    IfOk-weaker c.check_needs.result _ (λ links. (a : Id) → IsRecorded needs objects a → IsInReceived links.items pack a)
    (λ links leads. recorded_in links.items pack needs objects sorted c.sorted-objects.ensures.keeps indexed leads) c.check_needs.ensures.leads
