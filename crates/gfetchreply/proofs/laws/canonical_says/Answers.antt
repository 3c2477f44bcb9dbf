use Rattle.gfetchreply.proofs.CanonicalLemmas as canonical
use Rattle.gfetchreply.proofs.laws.canonical_says.Goals as goal

pub returns : goal.returns
returns c = canonical.canonical_says c.text_reads_back.ensures.line c.ids_have_texts.ensures c.ids_have_one_format.ensures
