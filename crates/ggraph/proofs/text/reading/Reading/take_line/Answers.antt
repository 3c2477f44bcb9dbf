use Rattle.ggraph.proofs.text.reading.Reading.take_line.Goals as goal

pub returns-in-First-clause-refused : goal.returns-in-First-clause-refused
returns-in-First-clause-refused g c = c.take_first.ensures.refused c.args.order

pub returns-in-None-clause-refused : goal.returns-in-None-clause-refused
returns-in-None-clause-refused g c = c.take_ref.ensures.refused c.args.order

pub returns-in-Refs-clause-refused : goal.returns-in-Refs-clause-refused
returns-in-Refs-clause-refused g c = c.take_ref-in-Refs.ensures.refused c.args.order

pub returns-in-Last-clause-refused : goal.returns-in-Last-clause-refused
returns-in-Last-clause-refused g c = c.take_last.ensures.refused c.args.order
