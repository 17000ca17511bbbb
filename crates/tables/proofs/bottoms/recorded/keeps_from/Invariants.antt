use Rattle.std.proofs.Common.{◌≡◌, ◌+◌, ◌*◌, ◌≤◌}
use Rattle.tables.specs.Courses.{sum, recorded}
use Rattle.tables.specs.Ranges.{every}
use Rattle.tables.specs.Tables.{at}
use Rattle.tables.proofs.Ranges.{Left}
use Rattle.tables.proofs.Windows.{Fits}
use Rattle.tables.proofs.bottoms.recorded.keeps_from.Given as goal

abbrev pub invariant-loop-before : goal.invariant-loop-before
invariant-loop-before l =
    Left every 1 (l.before + 1) l.last (Fits (at l.most) l.list l.start)
    × (sum (recorded l.list) l.start + l.sum ≡ sum (recorded l.list) (l.start + l.before))
    × (l.sum ≤ 4294967295 * l.before)
