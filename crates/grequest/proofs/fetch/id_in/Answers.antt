use Rattle.std.proofs.Common.{◌≡◌, ℕ, List, true, Option, None, Some, sym}
use Rattle.std.specs.Option.{IfSome}
use Rattle.std.proofs.lemmas.Bool.{eq-eqb}
use Rattle.gname.specs.Laws.{TextsHaveOneReading}
use Rattle.gname.specs.declared.formats.Format.{Format}
use Rattle.ggrammar.specs.Ids.{id_of_text}
use Rattle.ggrammar.proofs.IdLemmas.{id_formed}
use Rattle.gname.specs.Ids.{has_format}
use Rattle.grequest.proofs.fetch.id_in.Goals as goal

-- an id that is read from a text has the format in which the text is read
has_read_format : TextsHaveOneReading → (format : Format) (text : List ℕ) (read : Option (List ℕ))
    → id_of_text format text ≡ read → IfSome read (λ id. has_format format id ≡ true)
has_read_format law format text None is = tt
has_read_format law format text (Some id) is = eq-eqb _ _ (id_formed law format text id is).long

pub returns-clause-same : goal.returns-clause-same
returns-clause-same c = has_read_format c.texts_have_one_reading.ensures _ _ _ (sym c.id_of_text.ensures)
