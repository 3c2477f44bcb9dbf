use Rattle.ghello.proofs.laws.prefix_free.Goals as goal

pub returns : goal.returns
returns c = record {
  hello = (c.grammars_are_exact.ensures _).one_end;
  hello_spellings = (c.messages_are_read.ensures _).prefix_free;
  advert = (c.grammars_are_exact.ensures _).one_end;
  advert_spellings = (c.messages_are_read.ensures _).prefix_free;
}
