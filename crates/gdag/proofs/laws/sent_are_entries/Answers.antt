use Rattle.gdag.proofs.Sharing.{chosen_graph, chosen_nodes, graph_entries}
use Rattle.gdag.proofs.laws.sent_are_entries.Goals as goal

pub returns : goal.returns
returns g c = λ h list wants commons tips graph sent.
    let sends = chosen_graph _ h list graph sent in
    (sends, graph_entries c.ids_have_one_format.ensures (record { format = h.format; entries = list }) sends, chosen_nodes _ h.entries list graph.differ sent)
