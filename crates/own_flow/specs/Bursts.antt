-- A burst and its pair.
use Rattle.std.specs.Prelude.{ℕ, zero, suc, replicate, Result}
use Rattle.tables.specs.Makes.{pair_answer}
use Rattle.tables.specs.Tables.{Curves}
use Rattle.tables.specs.declared.refusal.Refusal.{Refusal}

-- c in the first tick, and nothing after it
abbrev pub burst : ℕ → ℕ → ℕ
burst c zero = c
burst c (suc t) = 0

-- its pair: at the most c in a window of 1 to 4 ticks, and nothing at the least
abbrev pub burst_answer : ℕ → Result Curves Refusal
burst_answer c = pair_answer (replicate 4 c) (replicate 4 0)
