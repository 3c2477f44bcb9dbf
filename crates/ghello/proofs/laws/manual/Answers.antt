use Rattle.std.proofs.Common.{refl}
use Rattle.ghello.specs.Adverts.{capabilities_of}
use Rattle.ghello.proofs.HelloLemmas.{hello_is_said, hello_says_whole, said_is_hello}
use Rattle.ghello.proofs.Manual.{table_is_manual}
use Rattle.ghello.proofs.laws.manual.Goals as goal

pub returns : goal.returns
returns c = record {
  hello = hello_says_whole (c.grammars_are_exact.ensures _).nothing;
  hello_payload = λ payload said. (hello_is_said payload said, said_is_hello payload said);
  advert = table_is_manual c.text_reads_back.ensures.nothing_else c.texts_are_read.ensures.more (c.grammars_are_exact.ensures _);
  advert_whole = λ packets.
      ((λ whole. (capabilities_of packets, record { whole = whole; says = refl })), (λ h. h.1.whole));
}
