-- What a ring holds, oldest first.
use Rattle.std.specs.Prelude.{ℕ, zero, suc, List, [], ◌∷◌, ◌++◌, length, take, drop, Some, None, Option}
use Rattle.runs.specs.declared.slots.Ring.{Ring}

-- n slots from head on, and on from the first slot after the last
abbrev pub held_in : {M : Type 0} → List M → ℕ → ℕ → List M
held_in slots head n = take n (drop head slots ++ slots)

abbrev pub holds : {M : Type 0} → Ring M → List M
holds r = held_in r.slots.now r.head r.held

abbrev pub room : {M : Type 0} → Ring M → ℕ
room r = length r.slots.now

-- what stands at a place of a list
abbrev pub nth : {M : Type 0} → List M → ℕ → Option M
nth [] i = None
nth (x ∷ xs) zero = Some x
nth (x ∷ xs) (suc i) = nth xs i
