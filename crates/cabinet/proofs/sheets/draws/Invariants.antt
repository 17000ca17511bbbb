use Rattle.std.proofs.Common.{◌≡◌, ℕ, ◌+◌, ◌<◌, length, get_or}
use Rattle.cabinet.proofs.sheets.draws.Given as goal

abbrev pub invariant-loop-count : goal.invariant-loop-count
invariant-loop-count g l =
    ((k : ℕ) → k < l.count-index → get_or l.count-items k 0 ≡ g.F.Flow.course l.initial.flow k)
    × (length l.count-items ≡ 352)
    × ((k : ℕ) → g.F.Flow.course l.flow k ≡ g.F.Flow.course l.initial.flow (l.count-index + k))
