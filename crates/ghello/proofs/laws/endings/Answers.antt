use Rattle.ghello.proofs.HelloLemmas.{hello_has_endings}
use Rattle.ghello.proofs.Manual.{advert_has_endings}
use Rattle.ghello.proofs.laws.endings.Goals as goal

pub returns : goal.returns
returns c =
    let exact = c.grammars_are_exact.ensures in record {
      hello = hello_has_endings (exact _).nothing;
      hello_first = (exact _).misfits (hello_has_endings (exact _).nothing);
      advert = advert_has_endings (exact _);
      advert_first = (exact _).misfits (advert_has_endings (exact _));
    }
