-- The busy period. What a stage passed by t is the smallest, over the moments v up to t, of what arrived by v and what β lets through from v to t.
-- Its wait, its delay and what it passes at least follow from the last moment that gives it.
use Rattle.std.proofs.Common.{◌≡◌, ℕ, zero, suc, ◌+◌, ◌-◌, ◌<◌, ◌≤◌, refl, arith}
use native.Mathlib.Decide.{dec_le, dec_lt}
use Rattle.tables.specs.Curves.{convolved, excess, shortest_delay}
use Rattle.tables.proofs.Curves.{delay_shortest}
use Rattle.tables.proofs.Ranges.{smallest_le}
use Rattle.courses.specs.Claims.{Passes, Bounds}
use Rattle.courses.specs.Courses.{KeepsTo}
use Rattle.courses.proofs.Ranges.{smallest_at, convolved_parts, excess_over}
use Rattle.courses.proofs.Sums.{Within}
use Rattle.tables.specs.Courses.{sum}

-- up to T, P is the min-plus product of A and β
pub record Curve (T : ℕ) (A P : ℕ → ℕ) (β : ℕ → ℕ → ℕ) : Type 0 where
  pub under : (v t : ℕ) → v ≤ t → t ≤ T → P t ≤ A v + β v t
  pub at : (t : ℕ) → t ≤ T → (s : ℕ) × (s ≤ t) × (P t ≡ A s + β s t)
  pub none : (t : ℕ) → β t t ≡ 0

pub passes : {T : ℕ} {a p : ℕ → ℕ} {β : ℕ → ℕ → ℕ} → Curve T (sum a) (sum p) β → Passes T a p β
passes {T} {a} {p} {β} C = record {
  account = λ t l. omega (arith, C.under t t (omega arith) l, C.none t);
  passed = λ t l.
      let (s, h, e) = C.at t l in
      let (v, g, d) = smallest_at t (λ v. sum a v + β v t) in
      omega (arith, C.under v t g l, smallest_le t (λ v. sum a v + β v t) s h);
}

-- where a moment D later never gives more, some moment less than D back gives what passed
pub near : {T : ℕ} {A P : ℕ → ℕ} {β : ℕ → ℕ → ℕ} (D : ℕ) → Curve T A P β → 1 ≤ D
    → ((v t : ℕ) → v + D ≤ t → t ≤ T → A (v + D) + β (v + D) t ≤ A v + β v t)
    → (t : ℕ) → t ≤ T → (s : ℕ) × (s ≤ t) × (t < s + D) × (P t ≡ A s + β s t)
near {T} {A} {P} {β} D C some later t l = let (s, h, e) = C.at t l in from t s (omega arith) h e
  where
    from : (n s : ℕ) → t ≤ s + n → s ≤ t → P t ≡ A s + β s t → (s : ℕ) × (s ≤ t) × (t < s + D) × (P t ≡ A s + β s t)
    from zero s b h e = (s, h, omega arith, e)
    from (suc n) s b h e = elim (dec_lt t (s + D)) [
      | yes g ↦ (s, h, g, e)
      | no g ↦ from n (s + D) (omega arith) (omega arith) (omega (arith, later s t (omega arith) l, C.under (s + D) t (omega arith) l))
    ]

-- the arrivals lie within E, and some moment less than D back gives what passed
module _ {T : ℕ} {mE lE A P : ℕ → ℕ} {β : ℕ → ℕ → ℕ} (D : ℕ) (E : Within T mE lE A) (C : Curve T A P β)
    (close : (t : ℕ) → t ≤ T → (s : ℕ) × (s ≤ t) × (t < s + D) × (P t ≡ A s + β s t)) where
  -- L is a least of what β lets through
  pub wait_bound : (L : ℕ → ℕ) → ((v k t : ℕ) → v + k ≡ t → t ≤ T → L k ≤ β v t) → (t : ℕ) → t ≤ T → A t ≤ P t + excess mE L D
  wait_bound L through t l =
      let (s, h, n, e) = close t l in
      let k : ℕ = t - s in
      omega (arith, E.under s k t (omega arith) l, through s k t (omega arith) l, excess_over mE L D k (omega arith))

  pub delay_bound : (L : ℕ → ℕ) → ((v k t : ℕ) → v + k ≡ t → t ≤ T → L k ≤ β v t)
      → (d : ℕ) → ((k : ℕ) → k ≤ D → mE k ≤ L (k + d)) → (t : ℕ) → t + d ≤ T → A t ≤ P (t + d)
  delay_bound L through d fits t l =
      let (s, h, n, e) = close (t + d) l in
      elim (dec_le t s) [
        | yes g ↦ omega (arith, E.over t (s - t) s (omega arith) (omega arith))
        | no g ↦
            let k : ℕ = t - s in
            omega (arith, E.under s k t (omega arith) (omega arith), through s (k + d) (t + d) (omega arith) l, fits k (omega arith))
      ]

  -- F is a least of what β lets through further on
  pub least_bound : (F : ℕ → ℕ) → ((v t k j : ℕ) → v ≤ t → t < v + D → t + k ≡ j → j ≤ T → β v t + F k ≤ β v j)
      → (i k : ℕ) → i + k ≤ T → P i + convolved lE F k ≤ P (i + k)
  least_bound F through i k l =
      let (s, h, n, e) = close (i + k) l in
      elim (dec_le i s) [
        | yes g ↦
            let u : ℕ = s - i in
            omega (
              arith,
              E.over i u s (omega arith) (omega arith),
              C.under i i (omega arith) (omega arith),
              C.none i,
              through s s (k - u) (i + k) (omega arith) (omega arith) (omega arith) l,
              convolved_parts lE F k u (k - u) (omega arith),
            )
        | no g ↦
            omega (
              arith,
              C.under s i (omega arith) (omega arith),
              through s i k (i + k) (omega arith) (omega arith) refl l,
              convolved_parts lE F k 0 k (omega arith),
              E.over i 0 i (omega arith) (omega arith),
            )
      ]

-- the bounds of a stage, given what it passes at most and least
pub bounds : {T : ℕ} {mE lE a p : ℕ → ℕ} {β : ℕ → ℕ → ℕ} (D : ℕ) (L most least : ℕ → ℕ) → Within T mE lE (sum a) → Curve T (sum a) (sum p) β
    → ((t : ℕ) → t ≤ T → (s : ℕ) × (s ≤ t) × (t < s + D) × (sum p t ≡ sum a s + β s t))
    → ((v k t : ℕ) → v + k ≡ t → t ≤ T → L k ≤ β v t) → mE D ≤ L D → KeepsTo T most least p
    → Bounds T D mE L most least a p
bounds {T} {mE} {lE} {a} {p} D L most least E C close through settled keeps = record {
  waits = λ t l. omega (arith, wait_bound D E C close L through t l);
  out = delay_bound D E C close L through;
  in_time = λ f g. delay_bound D E C close L through (shortest_delay D mE L) (delay_shortest D mE L f g settled).enough;
  keeps = keeps;
}
