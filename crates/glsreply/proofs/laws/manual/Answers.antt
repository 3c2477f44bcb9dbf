use Rattle.glsreply.proofs.RefTextLemmas.{TextLaws}
use Rattle.glsreply.proofs.TableLemmas.{say_words, words_say}
use Rattle.glsreply.proofs.laws.manual.Goals as goal

pub returns : goal.returns
returns c =
    let grammars = c.grammars_are_exact.ensures in
    let laws : TextLaws = record {
      names = c.names_are_clean.ensures;
      digits = c.id_texts_are_digits.ensures;
      formats = c.ids_have_one_format.ensures;
      readings = c.texts_have_one_reading.ensures;
    } in
    λ format ends packets reply. (say_words laws format grammars ends packets reply, words_say laws format grammars ends packets reply)
