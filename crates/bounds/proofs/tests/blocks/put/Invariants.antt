use Rattle.std.proofs.Common.{◌≡◌, ℕ, ◌+◌, ◌<◌, ◌≤◌, ◌⊎◌, get_or}
use Rattle.bounds.proofs.tests.blocks.put.Given as goal

abbrev pub invariant-loop-k : goal.invariant-loop-k
invariant-loop-k l = (i : ℕ) → (i < l.place) ⊎ (l.place + 192 ≤ i) → get_or l.bytes i 0 ≡ get_or l.initial.bytes i 0
