-- Where the largest and the smallest are reached, and the same of the curves made of them.
use Rattle.std.proofs.Common.{◌≡◌, ℕ, zero, suc, ◌+◌, ◌-◌, ◌≤◌, refl, ap, arith}
use native.Mathlib.Decide.{dec_le}
use Rattle.tables.specs.Ranges.{largest, smallest}
use Rattle.tables.specs.Curves.{convolved, deconvolved, excess, growth}
use Rattle.tables.proofs.Ranges.{largest_ge, smallest_le}

pub largest_at : (n : ℕ) (f : ℕ → ℕ) → (k : ℕ) × (k ≤ n) × (largest n f ≡ f k)
unfolding largest
largest_at zero f = (0, omega arith, refl)
largest_at (suc n) f = let (k, h, e) = largest_at n f in elim (dec_le (largest n f) (f (suc n))) [ yes g ↦ (suc n, omega arith, omega arith) | no g ↦ (k, omega arith, omega arith) ]

pub smallest_at : (n : ℕ) (f : ℕ → ℕ) → (k : ℕ) × (k ≤ n) × (smallest n f ≡ f k)
unfolding smallest
smallest_at zero f = (0, omega arith, refl)
smallest_at (suc n) f = let (k, h, e) = smallest_at n f in elim (dec_le (smallest n f) (f (suc n))) [ yes g ↦ (k, omega arith, omega arith) | no g ↦ (suc n, omega arith, omega arith) ]

module _ (f g : ℕ → ℕ) where
  -- no two lengths that make up n give less than the convolution, and some two give it
  pub convolved_parts : (n u v : ℕ) → u + v ≡ n → convolved f g n ≤ f u + g v
  unfolding convolved
  convolved_parts n u v e = let d : n - u ≡ v = omega arith in omega (arith, smallest_le n (λ u. f u + g (n - u)) u (omega arith), ap g d)

  pub convolved_at : (n : ℕ) → (u : ℕ) × (v : ℕ) × (u + v ≡ n) × (convolved f g n ≡ f u + g v)
  unfolding convolved
  convolved_at n = let (u, h, e) = smallest_at n (λ u. f u + g (n - u)) in (u, n - u, omega arith, e)

  pub excess_over : (n u : ℕ) → u ≤ n → f u ≤ g u + excess f g n
  unfolding excess
  excess_over n u h = omega (arith, largest_ge n (λ u. f u - g u) u h)

  pub excess_at : (n : ℕ) → (u : ℕ) × (u ≤ n) × (excess f g n ≡ f u - g u)
  unfolding excess
  excess_at n = largest_at n (λ u. f u - g u)

  pub deconvolved_over : (m k i : ℕ) → i ≤ m → f (k + i) ≤ g i + deconvolved m f g k
  unfolding deconvolved
  deconvolved_over m k i h = omega (arith, largest_ge m (λ i. f (k + i) - g i) i h)

pub growth_under : (h : ℕ → ℕ) (m k i : ℕ) → i ≤ m → growth m h k ≤ h (k + i) - h i
unfolding growth
growth_under h m k i l = smallest_le m (λ i. h (k + i) - h i) i l
