use Rattle.std.proofs.Common.{◌+◌, refl, rules}
use Rattle.tables.specs.Tables.{at}
use Rattle.tables.proofs.Curves.{graph_at}
use Rattle.tables.proofs.Pairs.{sum_graph}
use Rattle.tables.proofs.Tables.{shows_to}
use Rattle.tables.proofs.combine.sum_table.Goals as goal

pub of-requires-clause-graph : goal.of-requires-clause-graph
of-requires-clause-graph c = (λ k. at c.args.a.now k + at c.args.b.now k, graph_at c.frame.ensures.value (sum_graph c.args.a.now c.args.b.now c.requires), λ k r h gives. search rules)

pub returns : goal.returns
returns c = shows_to c.frame.ensures.value (λ k _. refl) (c.of.ensures _ (λ k r h gives. search rules))
