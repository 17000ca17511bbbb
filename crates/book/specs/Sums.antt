-- The two check sums.
use Rattle.std.specs.Prelude.{ℕ, ◌+◌, List, [], ◌∷◌}

-- the sum of the bytes
abbrev pub total : List ℕ → ℕ
total [] = 0
total (x ∷ xs) = x + total xs

-- the sum of all values that the sum takes on its way, from s on
abbrev pub running_from : ℕ → List ℕ → ℕ
running_from s [] = 0
running_from s (x ∷ xs) = (s + x) + running_from (s + x) xs

-- the sum of all its running values
abbrev pub running : List ℕ → ℕ
running xs = running_from 0 xs
