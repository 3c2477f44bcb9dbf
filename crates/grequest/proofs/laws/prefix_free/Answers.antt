use Rattle.grequest.proofs.laws.prefix_free.Goals as goal

pub returns : goal.returns
returns c = record {
  packets = λ limits format. (c.grammars_are_exact.ensures _).one_end;
  spellings = λ limits format. (c.messages_are_read.ensures _).prefix_free;
}
