use Rattle.std.proofs.Common.{◌∙◌, ap, sym}
use Rattle.ggrammar.specs.Ids.{id_of_text}
use Rattle.ggrammar.proofs.IdLemmas.{id_formed}
use Rattle.gfetchreply.proofs.sections.Sections.take_ack.Goals as goal

pub add-requires : goal.add-requires
add-requires g c =
    id_formed c.texts_have_one_reading.ensures c.args.self.now.acks.format c.args.id.now c.in-Some.id
    (sym (c.in-Some.ensures ∙ ap (λ format. id_of_text format c.args.id.now) c.format.ensures))
