use Rattle.std.proofs.Common.{arith}
use Rattle.tables.proofs.Tables.{at_le}
use Rattle.tables.proofs.table.Table.first.Goals as goal

pub returns-clause-bound : goal.returns-clause-bound
returns-clause-bound c = let t = c.args.self.now in omega (arith, c.near.ensures.value, at_le t 1 t.some)
