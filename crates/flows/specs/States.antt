-- The bottom flows in any state: what they hand over from there on.
use Rattle.std.specs.Prelude.{ℕ, zero, suc, ◌+◌, ◌%◌, cond, List, ◌==◌}
use Rattle.tables.specs.Courses.{later, slotted, recorded}

-- c in this tick; from the next on, where this one has the phase x, b in each tick whose phase the period p divides
abbrev pub clock : ℕ → ℕ → ℕ → ℕ → ℕ → ℕ
clock p b x c zero = c
clock p b x c (suc t) = cond ((x + suc t) % p == 0) b 0

-- what comes from place i on, of the first n of xs in turn
abbrev pub turning : ℕ → List ℕ → ℕ → ℕ → ℕ
turning n xs i = later i (slotted n (recorded xs))
