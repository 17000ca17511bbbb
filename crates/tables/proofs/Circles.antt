-- The running sums around a circle of counts, and the largest and smallest sum of neighbours.
use Rattle.std.proofs.Common.{◌≡◌, ℕ, zero, suc, ◌+◌, ◌-◌, ◌≤◌, sym, refl, ap, ◌∙◌, mod-eq_of_lt, arith}
use native.Mathlib.Nat.{add-mod_right}
use Rattle.tables.specs.Bottoms.{slotted_most, slotted_least}
use Rattle.tables.specs.Courses.{sum, later, slotted}
use Rattle.tables.specs.Curves.{Graph, repeated, deconvolved, growth}
use Rattle.tables.specs.Limits.{longest, limit}
use Rattle.tables.specs.Ranges.{largest, smallest}
use Rattle.tables.specs.Tables.{at, Shows}
use Rattle.tables.specs.declared.table.Table.{Table}
use Rattle.tables.proofs.Frames.{by_frames}
use Rattle.tables.proofs.Ranges.{largest_same, smallest_same}
use Rattle.tables.proofs.Sums.{sum_rises, sum_later}
use Rattle.tables.proofs.Tables.{repeated_near, repeated_later, shows_all}

pub sums_graph : (n : ℕ) (s : ℕ → ℕ) → 1 ≤ n → n ≤ longest → sum s n ≤ limit → Graph n (sum s)
sums_graph n s some few low = record { some = some; few = few; starts = refl; rises = λ k _. sum_rises s k (k + 1) (omega arith); limited = low }

module _ (N : ℕ) (s : ℕ → ℕ) where
  -- the sums go on by the whole circle
  pub circle : (t : ℕ) → sum (slotted N s) (t + N) ≡ sum (slotted N s) t + sum (slotted N s) N
  circle zero = let z : 0 + N ≡ N = omega arith in omega (arith, ap (sum (slotted N s)) z)
  circle (suc t) = let z : suc t + N ≡ suc (t + N) = omega arith in omega (arith, circle t, ap (sum (slotted N s)) z, ap s (add-mod_right t N))

  first_round : (t : ℕ) → t ≤ N → sum (slotted N s) t ≡ sum s t
  first_round zero h = refl
  first_round (suc t) h = omega (arith, first_round t (omega arith), ap s (mod-eq_of_lt h))

  pub slotted_sum : 1 ≤ N → (t : ℕ) → sum (slotted N s) t ≡ repeated N (sum s) t
  slotted_sum some =
      by_frames N some (λ t. sum (slotted N s) t ≡ repeated N (sum s) t)
      (λ t h. omega (arith, first_round t (omega arith), repeated_near N (sum s) some t h))
      (λ t holds. omega (arith, circle t, first_round N (omega arith), repeated_later N (sum s) some t))

-- of a table with the running sums
module _ {t : Table} {N : ℕ} (s : ℕ → ℕ) (shows : Shows t N (sum s)) where
  neighbours : (i k : ℕ) → at t (k + i) - at t i ≡ sum (later i (slotted N s)) k
  neighbours i k =
      let some : 1 ≤ N = omega (arith, t.some, shows.frame) in
      let is : (j : ℕ) → at t j ≡ sum (slotted N s) j = λ j. ap (λ (f : ℕ → ℕ). f j) (shows_all shows) ∙ sym (slotted_sum N s some j) in
      let turned : k + i ≡ i + k = omega arith in
      omega (arith, is i, is (i + k), ap (at t) turned, sum_later (slotted N s) i k)

  pub most_around : (k : ℕ) → deconvolved (t.frame - 1) (at t) (at t) k ≡ slotted_most N s k
  unfolding deconvolved slotted_most
  most_around k =
      ap (λ n. largest (n - 1) (λ i. at t (k + i) - at t i)) shows.frame
      ∙ largest_same (N - 1) (λ i. at t (k + i) - at t i) (λ i. sum (later i (slotted N s)) k) (λ i _. neighbours i k)

  pub least_around : (k : ℕ) → growth (t.frame - 1) (at t) k ≡ slotted_least N s k
  unfolding growth slotted_least
  least_around k =
      ap (λ n. smallest (n - 1) (λ i. at t (k + i) - at t i)) shows.frame
      ∙ smallest_same (N - 1) (λ i. at t (k + i) - at t i) (λ i. sum (later i (slotted N s)) k) (λ i _. neighbours i k)
