use Rattle.std.proofs.Common.{◌-◌, refl, rules}
use Rattle.tables.specs.Curves.{growth}
use Rattle.tables.specs.Tables.{at}
use Rattle.tables.proofs.Curves.{graph_at}
use Rattle.tables.proofs.Pairs.{growth_graph}
use Rattle.tables.proofs.Tables.{shows_to}
use Rattle.tables.proofs.combine.growth_table.Goals as goal

pub of-requires-clause-graph : goal.of-requires-clause-graph
of-requires-clause-graph c = (growth (c.args.h.now.frame - 1) (at c.args.h.now), graph_at c.frame.ensures.value (growth_graph c.args.h.now), λ k r h gives. search rules)

pub returns : goal.returns
returns c = shows_to c.frame.ensures.value (λ k _. refl) (c.of.ensures _ (λ k r h gives. search rules))
