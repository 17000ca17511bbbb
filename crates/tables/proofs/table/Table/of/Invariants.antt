use Rattle.std.proofs.Common.{ℕ}
use Rattle.tables.specs.Curves.{repeated}
use Rattle.tables.specs.Ranges.{Gives}
use Rattle.tables.proofs.Fills.{Filled}
use Rattle.tables.proofs.table.Table.of.Given as goal

abbrev pub invariant-loop-k : goal.invariant-loop-k
invariant-loop-k g l = (f : ℕ → ℕ) → Gives (goal.F-post g l.fn.fill) l.frame f → Filled 129 l.k (repeated l.frame f) l.entries
