use Rattle.glsreply.proofs.CanonicalLemmas.{canonical_says_reply}
use Rattle.glsreply.proofs.laws.canonical_says.Goals as goal

pub returns : goal.returns
returns c =
    canonical_says_reply (record {
      grammars = c.grammars_are_exact.ensures;
      reads = c.texts_are_read.ensures.line;
      texts = c.ids_have_texts.ensures;
      words = record {
        names = c.names_are_clean.ensures;
        digits = c.id_texts_are_digits.ensures;
        formats = c.ids_have_one_format.ensures;
        readings = c.texts_have_one_reading.ensures;
      };
    })
