use Rattle.std.proofs.Common.{◌-◌, refl, rules}
use Rattle.tables.specs.Curves.{deconvolved}
use Rattle.tables.specs.Tables.{at}
use Rattle.tables.proofs.Curves.{graph_at}
use Rattle.tables.proofs.Pairs.{rise_graph}
use Rattle.tables.proofs.Tables.{shows_to}
use Rattle.tables.proofs.combine.rise_table.Goals as goal

pub of-requires-clause-graph : goal.of-requires-clause-graph
of-requires-clause-graph c = (deconvolved (c.args.h.now.frame - 1) (at c.args.h.now) (at c.args.h.now), graph_at c.frame.ensures.value (rise_graph c.args.h.now), λ k r h gives. search rules)

pub returns : goal.returns
returns c = shows_to c.frame.ensures.value (λ k _. refl) (c.of.ensures _ (λ k r h gives. search rules))
