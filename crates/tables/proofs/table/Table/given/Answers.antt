use Rattle.std.proofs.Common.{rules}
use Rattle.tables.specs.Curves.{given as counted}
use Rattle.tables.proofs.table.Table.given.Goals as goal

pub returns : goal.returns
returns c = c.of.ensures (counted c.args.counts.now) (λ k r h gives. search rules)
