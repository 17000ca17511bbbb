-- The courses of the bottom flows.
use Rattle.std.specs.Prelude.{ℕ, suc, ◌-◌}
use Rattle.tables.specs.Bottoms.{clocked_most}

-- c in every tick
abbrev pub steady : ℕ → ℕ → ℕ
steady c t = c

-- the course of a clock of period p and jitter j
abbrev pub clocked : ℕ → ℕ → ℕ → ℕ
clocked p j t = clocked_most p j (suc t) - clocked_most p j t
