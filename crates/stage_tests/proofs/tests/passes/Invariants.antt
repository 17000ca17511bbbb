use Rattle.std.proofs.Common.{◌≡◌, ℕ, ◌+◌, ◌<◌, get_or}
use Rattle.stage_tests.proofs.tests.passes.Given as goal

abbrev pub invariant-loop-passed : goal.invariant-loop-passed
invariant-loop-passed g l =
    ((t : ℕ) → (g.T.Stage.top l.stage).passed t ≡ (g.T.Stage.top l.initial.stage).passed (l.passed-index + t))
    × ((t : ℕ) → (g.T.Stage.top l.stage).waits t ≡ (g.T.Stage.top l.initial.stage).waits (l.passed-index + t))
    × ((j : ℕ) → j < l.passed-index → ((g.T.Stage.top l.initial.stage).passed j ≡ (get_or l.ticks j (0, 0)).0) × ((g.T.Stage.top l.initial.stage).waits (j + 1) ≡ (get_or l.ticks j (0, 0)).1))
