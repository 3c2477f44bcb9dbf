use Rattle.std.proofs.Common.{◌∙◌, arith, refl}
use Rattle.ggrammar.specs.CapabilityView.{capability_view}
use Rattle.ghello.proofs.AdvertLemmas.{lent_key_within, lent_value_within}
use Rattle.gserver.proofs.GreetingLemmas.{capability_said, few_there, form_there, greeting_over, version_said}
use Rattle.gserver.proofs.greeting.GreetingCursor.step.Goals as goal

pub returns-in-Version : goal.returns-in-Version
returns-in-Version g c = rw c.in-Version.is (version_said c.args.self.now.advert c.args.out.now c.put_text.new.self c.put_text.ensures)

pub text_of-requires-clause-key : goal.text_of-requires-clause-key
text_of-requires-clause-key g c =
    let capability = c.in-Some.capability in
    lent_key_within capability (capability_view capability) refl
    (form_there c.args.self.now.advert c.in-Capability.at (capability_view capability) c.in-Some.ensures.capability c.in-Some.ensures.form)

pub text_of-requires-clause-value : goal.text_of-requires-clause-value
text_of-requires-clause-value g c =
    let capability = c.in-Some.capability in
    lent_value_within capability (capability_view capability) refl
    (form_there c.args.self.now.advert c.in-Capability.at (capability_view capability) c.in-Some.ensures.capability c.in-Some.ensures.form)

pub overflow_add-self : goal.overflow_add-self
overflow_add-self g c =
    let few = few_there c.args.self.now.advert c.in-Capability.at (capability_view c.in-Some.capability) c.in-Some.ensures.capability c.in-Some.ensures.form in
    omega (arith, few)

pub returns-in-Some : goal.returns-in-Some
returns-in-Some g c =
    rw c.in-Capability.is (capability_said c.args.self.now.advert c.in-Capability.at (capability_view c.in-Some.capability)
    c.as_slice.result.now c.args.out.now c.put_text-in-Some.new.self c.in-Some.ensures.capability
    (c.as_slice.ensures.value ∙ c.text_of.ensures.text) c.put_text-in-Some.ensures)

pub returns-in-None : goal.returns-in-None
returns-in-None g c =
    rw c.in-Capability.is (greeting_over c.args.self.now.advert c.in-Capability.at c.args.out.now c.put_flush.new.self
    c.in-None.ensures.capability c.put_flush.ensures)
