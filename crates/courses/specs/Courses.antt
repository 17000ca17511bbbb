-- The windows that courses keep, and the rules of the stages.
use Rattle.std.specs.Prelude.{◌≡◌, ℕ, ◌+◌, ◌-◌, ◌<◌, ◌≤◌, min}
use Rattle.tables.specs.Ranges.{smallest}
use Rattle.tables.specs.Courses.{sum}

-- each window of k ticks that ends at or before tick T hands over at most most k, and at least least k
pub record KeepsTo (T : ℕ) (most least a : ℕ → ℕ) : Type 0 where
  pub under : (i k : ℕ) → i + k ≤ T → sum a (i + k) ≤ sum a i + most k
  pub over : (i k : ℕ) → i + k ≤ T → sum a i + least k ≤ sum a (i + k)

-- the same of every window
pub record Keeps (most least a : ℕ → ℕ) : Type 0 where
  pub to : (T : ℕ) → KeepsTo T most least a

-- a and b hand over the same up to tick T
pub record SameTo (T : ℕ) (a b : ℕ → ℕ) : Type 0 where
  pub each : (t : ℕ) → t < T → a t ≡ b t

-- two courses together
abbrev pub plus : (ℕ → ℕ) → (ℕ → ℕ) → ℕ → ℕ
plus a b t = a t + b t

-- the backlog after t ticks: all that arrived less all that passed
abbrev pub waiting : (ℕ → ℕ) → (ℕ → ℕ) → ℕ → ℕ
waiting a p t = sum a t - sum p t

-- up to tick T, a server with the events a and the service c passes p
pub record ServesTo (T : ℕ) (a c p : ℕ → ℕ) : Type 0 where
  pub rule : (t : ℕ) → t < T → p t ≡ min (waiting a p t + a t) (c t)

-- what a server leaves of its service
abbrev pub rest : (ℕ → ℕ) → (ℕ → ℕ) → ℕ → ℕ
rest c p t = c t - p t

-- what p handed over in the k ticks before tick t + 1, nothing before the first
abbrev pub lately : (ℕ → ℕ) → ℕ → ℕ → ℕ
lately p t k = sum p t - sum p (t - k)

-- up to tick T, a greedy shaper with the shaping table h of frame N and the events a passes p
pub record ShapesTo (T N : ℕ) (h a p : ℕ → ℕ) : Type 0 where
  pub rule : (t : ℕ) → t < T → p t ≡ min (waiting a p t + a t) (smallest (N - 1) (λ k. h (k + 1) - lately p t k))
