use Rattle.std.proofs.Common.{refl}
use Rattle.tables.specs.Curves.{repeated}
use Rattle.tables.specs.Tables.{at}
use Rattle.tables.proofs.table.Table.at.Goals as goal

pub returns-clause-value : goal.returns-clause-value
unfolding at repeated
returns-clause-value c = rw (c.from.ensures, c.from-2.ensures) refl
