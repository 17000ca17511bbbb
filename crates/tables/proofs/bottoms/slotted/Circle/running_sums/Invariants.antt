use Rattle.std.proofs.Common.{◌+◌}
use Rattle.tables.specs.Courses.{sum, recorded}
use Rattle.tables.proofs.Fills.{Filled}
use Rattle.tables.proofs.bottoms.slotted.Circle.running_sums.Given as goal

abbrev pub invariant-loop-before : goal.invariant-loop-before
invariant-loop-before l = Filled 65 (l.before + 1) (sum (recorded l.self.counts.now)) l.sums
