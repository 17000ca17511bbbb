-- What a server passes and leaves.
use Rattle.std.proofs.Common.{◌≡◌, ℕ, zero, suc, ◌+◌, ◌-◌, ◌<◌, ◌≤◌, refl, arith}
use native.Mathlib.Decide.{dec_le, le_ind}
use Rattle.tables.specs.Curves.{convolved, excess, most_passed}
use Rattle.courses.specs.Claims.{Bounds}
use Rattle.courses.specs.Courses.{KeepsTo, waiting, ServesTo, rest}
use Rattle.courses.proofs.Busy.{Curve, near, least_bound, bounds}
use Rattle.courses.proofs.Ranges.{convolved_at, excess_over, excess_at, deconvolved_over}
use Rattle.tables.proofs.Sums.{sum_rises}
use Rattle.courses.proofs.Sums.{passed_le, Within, within}
use Rattle.tables.specs.Courses.{sum}

module _ {T : ℕ} {a c p : ℕ → ℕ} (R : ServesTo T a c p) where
  few : (t : ℕ) → t ≤ T → sum p t ≤ sum a t
  few = passed_le T a p (λ t l. omega (arith, R.rule t l))

  at : (t : ℕ) → t ≤ T → (s : ℕ) × (s ≤ t) × (sum p t ≡ sum a s + (sum c t - sum c s))
  at zero l = (0, omega arith, omega arith)
  at (suc t) l = let (s, h, e) = at t (omega arith) in elim (dec_le (waiting a p t + a t) (c t)) [
    | yes g ↦ (suc t, omega arith, omega (arith, R.rule t l, few t (omega arith)))
    | no g ↦ (s, omega arith, omega (arith, R.rule t l, sum_rises c s t h))
  ]

  -- its rest and what passed make up its service
  pub rest_sum : (t : ℕ) → t ≤ T → sum (rest c p) t + sum p t ≡ sum c t
  rest_sum zero l = omega arith
  rest_sum (suc t) l = omega (arith, R.rule t l, rest_sum t (omega arith))

  pub curve : Curve T (sum a) (sum p) (λ v t. sum c t - sum c v)
  curve = record {
    under = λ v t h. le_ind {n = v} (λ t. t ≤ T → sum p t ≤ sum a v + (sum c t - sum c v)) (λ l. omega (arith, few v l))
        (λ t h less l. omega (arith, R.rule t l, less (omega arith), sum_rises c v t h)) t h;
    at = at;
    none = λ t. omega arith;
  }

module _ {T : ℕ} {mE lE mS lS a c p : ℕ → ℕ} (D : ℕ) (keeps : KeepsTo T mE lE a) (kept : KeepsTo T mS lS c) (R : ServesTo T a c p) (some : 1 ≤ D) (settled : mE D ≤ lS D) where
  E : Within T mE lE (sum a)
  E = within keeps

  S : Within T mS lS (sum c)
  S = within kept

  close : (t : ℕ) → t ≤ T → (s : ℕ) × (s ≤ t) × (t < s + D) × (sum p t ≡ sum a s + (sum c t - sum c s))
  close = near D (curve R) some (λ v t h l. omega (arith, E.under v D (v + D) refl (omega arith), S.over v D (v + D) refl (omega arith), sum_rises c (v + D) t h))

  passed_under : (i k : ℕ) → i + k ≤ T → sum p (i + k) ≤ sum p i + most_passed D mE mS lS k
  unfolding most_passed
  passed_under i k l =
      let (s, h, n, e) = close i (omega arith) in
      let j : ℕ = i - s in
      let (u, v, q, g) = convolved_at mE mS (k + j) in
      omega (
        arith,
        (curve R).under s (i + k) (omega arith) l,
        S.under i k (i + k) refl l,
        sum_rises c s i h,
        sum_rises c i (i + k) (omega arith),
        (curve R).under (s + u) (i + k) (omega arith) l,
        E.under s u (s + u) refl (omega arith),
        S.under (s + u) v (i + k) (omega arith) l,
        S.over s j i (omega arith) (omega arith),
        deconvolved_over (convolved mE mS) lS (D - 1) k j (omega arith),
      )

  pub server_passed : KeepsTo T (most_passed D mE mS lS) (convolved lE lS) p
  server_passed = record {
    under = passed_under;
    over = least_bound D E (curve R) close lS (λ v t k j h n e l. omega (arith, S.over t k j e l, sum_rises c v t h));
  }

  pub server_bounds : Bounds T D mE lS (most_passed D mE mS lS) (convolved lE lS) a p
  server_bounds = bounds D lS (most_passed D mE mS lS) (convolved lE lS) E (curve R) close (λ v k t e l. omega (arith, S.over v k t e l)) settled server_passed

  pub server_rest : KeepsTo T (excess mS lE) (excess lS mE) (rest c p)
  server_rest = record {
    under = λ i k l.
        let (s, h, e) = (curve R).at (i + k) l in
        let here = rest_sum R i (omega arith) in
        let there = rest_sum R (i + k) l in
        elim (dec_le i s) [
          | yes g ↦
              let u : ℕ = s - i in
              omega (
                arith,
                E.over i u s (omega arith) (omega arith),
                S.under i u s (omega arith) (omega arith),
                (curve R).under i i (omega arith) (omega arith),
                sum_rises c s (i + k) h,
                excess_over mS lE k u (omega arith),
              )
          | no g ↦ omega (arith, (curve R).under s i (omega arith) (omega arith), sum_rises c s i (omega arith), sum_rises c s (i + k) h)
        ];
    over = λ i k l.
        let (s, h, e) = (curve R).at i (omega arith) in
        let (u, q, g) = excess_at lS mE k in
        let here = rest_sum R i (omega arith) in
        let there = rest_sum R (i + k) l in
        omega (
          arith,
          (curve R).under s (i + k) (omega arith) l,
          (curve R).under (s + u) (i + k) (omega arith) l,
          E.under s u (s + u) refl (omega arith),
          S.over s u (s + u) refl (omega arith),
          sum_rises c s i h,
          sum_rises c (s + u) (i + k) (omega arith),
        );
  }
