use Rattle.ghello.proofs.Canonical.{canonical_says_hello, canonical_says_advert}
use Rattle.ghello.proofs.laws.canonical_says.Goals as goal

pub returns : goal.returns
returns c = record {
  hello = canonical_says_hello;
  advert = canonical_says_advert c.text_reads_back.ensures.line c.texts_are_classified.ensures.capabilities c.manual.ensures.advert;
}
