use Rattle.std.proofs.Common.{◌∙◌, ap}
use Rattle.gdag.specs.Graphs.{History}
use Rattle.ggraph.specs.declared.text.reading.Reading.{Reading}
use Rattle.ggraph.specs.declared.text.reading.TextStage.TheVariants.{Nodes}
use Rattle.ggraph.specs.steps.Reading.{begins}
use Rattle.ggraph.proofs.text.reading.Reading.take_first.Goals as goal

pub returns-in-Some-clause-ok : goal.returns-in-Some-clause-ok
returns-in-Some-clause-ok g c order =
    let with_graph : History g.row.A.Denot → Reading g.row.A.Denot = λ graph. record { stage = Nodes; graph = graph; refs = c.args.self.now.refs; head = c.args.self.now.head } in
    (begins c.in-Some.format, c.in-Some.ensures, c.requires, ap with_graph (c.make_room.ensures ∙ c.new_in.ensures))
