-- Courses. A course is what a flow hands over in each coming tick, without end: tick t + 1 hands over a t.
use Rattle.std.specs.Prelude.{ℕ, zero, suc, ◌+◌, ◌%◌, List, slice_index}

-- what the first t ticks hand over
abbrev pub sum : (ℕ → ℕ) → ℕ → ℕ
sum a zero = 0
sum a (suc t) = sum a t + a t

-- the course n ticks on
abbrev pub later : {X : Type 0} → ℕ → (ℕ → X) → ℕ → X
later n a t = a (n + t)

-- N counts in turn, for ever
abbrev pub slotted : ℕ → (ℕ → ℕ) → ℕ → ℕ
slotted N s t = s (t % N)

-- the counts of a list, and then nothing
abbrev pub recorded : List ℕ → ℕ → ℕ
recorded xs t = slice_index xs t
