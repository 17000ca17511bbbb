-- The greedy shaper: what it passes.
use Rattle.std.proofs.Common.{◌≡◌, ℕ, zero, suc, ◌+◌, ◌-◌, ◌<◌, ◌≤◌, true, refl, ap, arith}
use native.Mathlib.Decide.{dec_le}
use Rattle.tables.specs.Curves.{Graph, repeated, convolved, growth, subadditive}
use Rattle.tables.specs.Ranges.{smallest}
use Rattle.tables.proofs.Ranges.{smallest_le}
use Rattle.courses.specs.Claims.{Bounds}
use Rattle.courses.specs.Courses.{KeepsTo, waiting, lately, ShapesTo}
use Rattle.courses.proofs.Busy.{Curve, near, least_bound, bounds}
use Rattle.tables.proofs.Frames.{under_frames}
use Rattle.courses.proofs.Frames.{curve_starts, curve_within, curve_rises, curve_later, subadditive_all}
use Rattle.courses.proofs.Ranges.{smallest_at, convolved_at, growth_under}
use Rattle.tables.proofs.Sums.{sum_rises}
use Rattle.courses.proofs.Sums.{passed_le, Within, within}
use Rattle.tables.specs.Courses.{sum}

module _ {T N : ℕ} {h a p : ℕ → ℕ} (G : Graph N h) (R : ShapesTo T N h a p) where
  few : (t : ℕ) → t ≤ T → sum p t ≤ sum a t
  few = passed_le T a p (λ t l. omega (arith, R.rule t l))

  -- what passes in a window of k ticks is at most h k
  short : (i k : ℕ) → k ≤ N → i + k ≤ T → sum p (i + k) ≤ sum p i + h k
  short i zero b l = let e : i + 0 ≡ i = omega arith in omega (arith, ap (sum p) e)
  short i (suc k) b l =
      let e : i + suc k ≡ suc (i + k) = omega arith in
      let back : i + k - k ≡ i = omega arith in
      let next : k + 1 ≡ suc k = omega arith in
      omega (
        arith,
        short i k (omega arith) (omega arith),
        R.rule (i + k) (omega arith),
        ap (sum p) e,
        ap (sum p) back,
        ap h next,
        G.rises k b,
        sum_rises p i (i + k) (omega arith),
        smallest_le (N - 1) (λ n. h (n + 1) - lately p (i + k) n) k (omega arith),
      )

  module _ (rule : subadditive N (repeated N h) ≡ true) where
    -- some moment gives no more than what passed
    reached : (n t : ℕ) → t ≤ n → t ≤ T → (s : ℕ) × (s ≤ t) × (sum a s + repeated N h (t - s) ≤ sum p t)
    reached n zero b l = (0, omega arith, omega (arith, curve_starts G))
    reached zero (suc t) b l = absurd (omega arith)
    reached (suc n) (suc t) b l = elim (dec_le (waiting a p t + a t) (smallest (N - 1) (λ k. h (k + 1) - lately p t k))) [
      | yes g ↦
          let z : suc t - suc t ≡ 0 = omega arith in
          (suc t, omega arith, omega (arith, R.rule t l, few t (omega arith), ap (repeated N h) z, curve_starts G))
      | no g ↦
          let (k, c, e) = smallest_at (N - 1) (λ k. h (k + 1) - lately p t k) in
          let (s, q, r) = reached n (t - k) (omega arith) (omega arith) in (
            s,
            omega arith,
            omega (
              arith,
              R.rule t l,
              sum_rises p (t - k) t (omega arith),
              curve_rises G (suc t - s) (t - k - s + (k + 1)) (omega arith),
              subadditive_all G rule (t - k - s) (k + 1) (t - k - s + (k + 1)) refl,
              curve_within G (k + 1) (omega (arith, G.some)),
            ),
          )
    ]

    curve_under : (v t : ℕ) → v ≤ t → t ≤ T → sum p t ≤ sum a v + repeated N h (t - v)
    curve_under v t b l =
        let e : v + (t - v) ≡ t = omega arith in
        omega (arith, under_frames T N h (sum p) G.some short (t - v) v (omega arith), ap (sum p) e, few v (omega arith))

    pub curve : Curve T (sum a) (sum p) (λ v t. repeated N h (t - v))
    curve = record {
      under = curve_under;
      at = λ t l. let (s, b, e) = reached t t (omega arith) l in (s, b, omega (arith, curve_under s t b l));
      none = λ t. let z : t - t ≡ 0 = omega arith in omega (arith, ap (repeated N h) z, curve_starts G);
    }

module _ {T N : ℕ} {h mE lE a p : ℕ → ℕ} (G : Graph N h) (rule : subadditive N (repeated N h) ≡ true) (keeps : KeepsTo T mE lE a) (R : ShapesTo T N h a p) (settled : mE N ≤ repeated N h N) where
  E : Within T mE lE (sum a)
  E = within keeps

  close : (t : ℕ) → t ≤ T → (s : ℕ) × (s ≤ t) × (t < s + N) × (sum p t ≡ sum a s + repeated N h (t - s))
  close = near N (curve G R rule) G.some (λ v t b l. omega (arith, E.under v N (v + N) refl (omega arith), curve_later G (t - (v + N)) (t - v) (omega arith)))

  pub shaper_passed : KeepsTo T (convolved mE (repeated N h)) (convolved lE (growth (N - 1) (repeated N h))) p
  shaper_passed = record {
    under = λ i k l.
        let (s, b, e) = (curve G R rule).at i (omega arith) in
        let (u, v, q, g) = convolved_at mE (repeated N h) k in
        omega (
          arith,
          (curve G R rule).under (s + u) (i + k) (omega arith) l,
          E.under s u (s + u) refl (omega arith),
          subadditive_all G rule (i - s) v (i + k - (s + u)) (omega arith),
        );
    over = least_bound N E (curve G R rule) close (growth (N - 1) (repeated N h)) (λ v t k j b c e l.
        omega (
          arith,
          growth_under (repeated N h) (N - 1) k (t - v) (omega arith),
          curve_rises G (t - v) (k + (t - v)) (omega arith),
          curve_rises G (k + (t - v)) (j - v) (omega arith),
        ));
  }

  pub shaper_bounds : Bounds T N mE (repeated N h) (convolved mE (repeated N h)) (convolved lE (growth (N - 1) (repeated N h))) a p
  shaper_bounds =
      bounds N (repeated N h) (convolved mE (repeated N h)) (convolved lE (growth (N - 1) (repeated N h))) E (curve G R rule) close
      (λ v k t e l. curve_rises G k (t - v) (omega arith)) settled shaper_passed
