use Rattle.ggrammar.proofs.IdLemmas.{id_spells}
use Rattle.grequest.proofs.Canonical.{canonical_says_all}
use Rattle.grequest.proofs.laws.canonical_says.Goals as goal

pub returns : goal.returns
returns c =
    canonical_says_all c.grammars_are_exact.ensures (id_spells c.ids_have_one_format.ensures c.ids_have_texts.ensures) c.prefixes_are_clean.ensures
