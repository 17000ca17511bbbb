use Rattle.std.proofs.Common.{refl, rules}
use Rattle.tables.specs.Curves.{convolved}
use Rattle.tables.specs.Tables.{at}
use Rattle.tables.proofs.Curves.{graph_at}
use Rattle.tables.proofs.Pairs.{convolved_graph}
use Rattle.tables.proofs.Tables.{shows_to}
use Rattle.tables.proofs.combine.convolved_table.Goals as goal

pub of-requires-clause-graph : goal.of-requires-clause-graph
of-requires-clause-graph c = (convolved (at c.args.first.now) (at c.args.then.now), graph_at c.frame.ensures.value (convolved_graph c.args.first.now c.args.then.now c.requires), λ k r h gives. search rules)

pub returns : goal.returns
returns c = shows_to c.frame.ensures.value (λ k _. refl) (c.of.ensures _ (λ k r h gives. search rules))
