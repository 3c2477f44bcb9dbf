use Rattle.ghello.proofs.laws.reads_exactly.Goals as goal

pub returns : goal.returns
returns c = record {
  hello = c.kinds_are_read.ensures.exactly tt c.manual.ensures.hello c.one_meaning.ensures.hello;
  advert = c.kinds_are_read-2.ensures.exactly tt c.manual.ensures.advert_whole c.one_meaning.ensures.advert;
}
