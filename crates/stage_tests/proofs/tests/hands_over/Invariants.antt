use Rattle.std.proofs.Common.{◌≡◌, ℕ, ◌+◌, ◌<◌, get_or}
use Rattle.stage_tests.proofs.tests.hands_over.Given as goal

abbrev pub invariant-loop-count : goal.invariant-loop-count
invariant-loop-count g l =
    ((t : ℕ) → g.F.Flow.course l.flow t ≡ g.F.Flow.course l.initial.flow (l.count-index + t))
    × ((j : ℕ) → j < l.count-index → g.F.Flow.course l.initial.flow j ≡ get_or l.counts j 0)
