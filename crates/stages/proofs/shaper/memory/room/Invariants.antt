use Rattle.std.proofs.Common.{◌≡◌, ◌-◌, ◌*◌, ◌^◌, ◌≤◌, length, get_or, take, sum as total}
use Rattle.tables.specs.Ranges.{smallest}
use Rattle.stages.proofs.shaper.memory.room.Given as goal

-- the entries so far, and what was passed in as many ticks
abbrev pub invariant-loop-entry : goal.invariant-loop-entry
invariant-loop-entry l =
    (l.room ≡ smallest (length l.yielded - 1) (λ k. get_or l.entries k 0 - total (take k l.past)))
    × (l.passed ≡ total (take (length l.yielded) l.past))
    × (l.passed ≤ 2 ^ 32 * length l.yielded)
