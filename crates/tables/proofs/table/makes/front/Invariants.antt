use Rattle.std.proofs.Common.{◌≡◌, ℕ, ◌+◌, ◌<◌, length, get_or}
use Rattle.tables.specs.Ranges.{Gives}
use Rattle.tables.proofs.table.makes.front.Given as goal

abbrev pub invariant-loop-length : goal.invariant-loop-length
invariant-loop-length g l =
    ((f : ℕ → ℕ) → Gives (goal.F-post g l.fill) l.frame f → (k : ℕ) → k < l.length → get_or l.entry-items k 0 ≡ f k) × (length l.entry-items ≡ l.frame + 1)
