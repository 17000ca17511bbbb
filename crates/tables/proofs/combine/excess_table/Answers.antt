use Rattle.std.proofs.Common.{refl, rules}
use Rattle.tables.specs.Curves.{excess}
use Rattle.tables.specs.Tables.{at}
use Rattle.tables.proofs.Curves.{graph_at}
use Rattle.tables.proofs.Pairs.{excess_graph}
use Rattle.tables.proofs.Tables.{shows_to}
use Rattle.tables.proofs.combine.excess_table.Goals as goal

pub of-requires-clause-graph : goal.of-requires-clause-graph
of-requires-clause-graph c = (excess (at c.args.of.now) (at c.args.over.now), graph_at c.frame.ensures.value (excess_graph c.args.of.now c.args.over.now), λ k r h gives. search rules)

pub returns : goal.returns
returns c = shows_to c.frame.ensures.value (λ k _. refl) (c.of.ensures _ (λ k r h gives. search rules))
