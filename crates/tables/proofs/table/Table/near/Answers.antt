use Rattle.std.proofs.Common.{arith}
use Rattle.tables.proofs.Tables.{near_is, at_small}
use Rattle.tables.proofs.table.Table.near.Goals as goal

pub returns : goal.returns
returns c =
    let t = c.args.self.now in
    let k = c.args.length in
    record { value = near_is t k c.requires; bound = omega (arith, near_is t k c.requires, at_small t k) }
