-- What holds up to a frame, and goes on by frames.
use Rattle.std.proofs.Common.{◌≡◌, ℕ, zero, suc, ◌+◌, ◌-◌, ◌<◌, ◌≤◌, ap, subst, arith}
use native.Mathlib.Decide.{dec_lt}
use Rattle.tables.specs.Curves.{repeated}
use Rattle.tables.proofs.Tables.{repeated_near, repeated_later}

-- what holds below N, and N further on wherever it holds, holds everywhere
pub by_frames : (N : ℕ) → 1 ≤ N → (Q : ℕ → Type 0) → ((k : ℕ) → k < N → Q k) → ((k : ℕ) → Q k → Q (k + N)) → (k : ℕ) → Q k
by_frames N some Q base step k = go k k (omega arith)
  where
    go : (n k : ℕ) → k ≤ n → Q k
    go zero k h = base k (omega arith)
    go (suc n) k h = elim (dec_lt k N) [
      | yes g ↦ base k g
      | no g ↦ let e : k - N + N ≡ k = omega arith in subst Q e (step (k - N) (go n (k - N) (omega arith)))
    ]

-- a bound of the windows up to N holds at every length
pub under_frames : (T N : ℕ) (f A : ℕ → ℕ) → 1 ≤ N → ((i k : ℕ) → k ≤ N → i + k ≤ T → A (i + k) ≤ A i + f k) → (k i : ℕ) → i + k ≤ T → A (i + k) ≤ A i + repeated N f k
under_frames T N f A some short =
    by_frames N some (λ k. (i : ℕ) → i + k ≤ T → A (i + k) ≤ A i + repeated N f k)
    (λ k h i l. omega (arith, short i k (omega arith) l, repeated_near N f some k h))
    (λ k holds i l.
    let e : i + k + N ≡ i + (k + N) = omega arith in
    omega (arith, holds i (omega arith), short (i + k) N (omega arith) (omega arith), ap A e, repeated_later N f some k))
