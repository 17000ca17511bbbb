-- A draw from a flow, what it hands over at most, and what a closed stage keeps.
use Rattle.std.proofs.Common.{◌≡◌, ℕ, zero, suc, ◌+◌, ◌/◌, ◌≤◌, map, IfSome, refl, ap, subst, mul-zero, arith}
use Rattle.tables.specs.Courses.{sum}
use Rattle.tables.specs.Curves.{repeated}
use Rattle.tables.specs.Limits.{limit}
use Rattle.tables.specs.Tables.{Curves, at, curves, paired}
use Rattle.tables.proofs.Tables.{at_le}
use Rattle.tables.specs.declared.pair.Pair.{Pair}
use Rattle.flows.specs.Views.{Fine, KeepsPair, tail, next_view}
use Rattle.flows.specs.declared.bounds.StageBounds.{StageBounds}
use Rattle.flows.specs.declared.flow.Flow.{Ghosts}

-- a draw from x to y that answers r
pub record Drawn {X : Type 0} (F : Ghosts X) (x : X) (r : ℕ) (y : X) : Type 0 where
  pub count : r ≡ F.course x 0
  pub next : F.course y ≡ tail (F.course x)
  pub same : F.pair y ≡ F.pair x
  pub views : F.views y ≡ map next_view (F.views x)

-- what a flow hands over in a tick is at most its first entry
pub first_few : (p : Pair) (f : ℕ → ℕ) → KeepsPair p f → (t : ℕ) → f t ≤ at p.most 1
first_few p f K t = let e : t + 1 ≡ suc t = omega arith in omega (arith, (K.to (t + 1)).under t 1 (omega arith), ap (sum f) e)

pub first_small : (p : Pair) (f : ℕ → ℕ) → KeepsPair p f → f 0 ≤ limit
first_small p f K = omega (arith, first_few p f K 0, at_le p.most 1 p.most.some)

sum_zeros : (t : ℕ) → sum (λ _. 0) t ≡ 0
sum_zeros zero = refl
sum_zeros (suc t) = omega (arith, sum_zeros t)

repeated_zeros : (n k : ℕ) → repeated n (λ _. 0) k ≡ 0
unfolding repeated
repeated_zeros n k = omega (arith, mul-zero (k / n))

-- no count keeps the zero pair
pub closed_keeps : (n : ℕ) (p : Pair) → curves p ≡ paired n (λ _. 0) (λ _. 0) → KeepsPair p (λ _. 0)
closed_keeps n p is = record {
  to = λ T. record {
    under = λ i k _. omega (arith, sum_zeros i, sum_zeros (i + k));
    over = λ i k _. omega (arith, sum_zeros i, sum_zeros (i + k), ap (λ (q : Curves). q.least k) is, repeated_zeros n k);
  };
}

-- a closed stage keeps its bounds
pub closed_fine : (n : ℕ) (f : StageBounds) → curves f.pair ≡ paired n (λ _. 0) (λ _. 0) → IfSome f.rest (λ p. KeepsPair p (λ _. 0))
    → Fine (record { arrived = λ _. 0; passed = λ _. 0; rest = λ _. 0; waits = λ _. 0; arriving = 0; bounds = f })
closed_fine n f zeros rests = record {
  account = λ t. refl;
  few = λ t. omega arith;
  within = λ t. omega arith;
  keeps = closed_keeps n f.pair zeros;
  rests = rests;
  out = λ t. omega (arith, sum_zeros t);
}

-- what holds of two pairs holds of the pairs that they are
pub both : (P : Pair → Pair → Type 0) {p o q r : Pair} → p ≡ o → q ≡ r → P p q → P o r
both P {p} {o} {q} {r} ep eq h = subst (λ x. P x r) ep (subst (P p) eq h)
