use Rattle.ghello.proofs.laws.reads_back.Goals as goal

pub returns : goal.returns
returns c =
    let canonical = c.canonical_says.ensures in record {
      hello = c.kinds_are_read.ensures.back tt c.manual.ensures.hello c.one_meaning.ensures.hello canonical.hello;
      advert = c.kinds_are_read-2.ensures.back tt c.manual.ensures.advert_whole c.one_meaning.ensures.advert canonical.advert;
    }
