-- What the curves of a steady flow and of a clock keep.
use Rattle.std.proofs.Common.{◌≡◌, ℕ, zero, suc, ◌+◌, ◌-◌, ◌*◌, ◌/◌, ◌%◌, ◌<◌, ◌≤◌, min, sym, refl, ap, ⊎_elim, mod-lt, add-mul, one-mul, mul-le-mul_left, mul-zero, div-add-mod', div-le_self, add-one, arith}
use Rattle.std.proofs.lemmas.Nat.{le-div, div-mul-add}
use Rattle.std.proofs.lemmas.Bool.{cases_lt}
use Rattle.tables.specs.Bottoms.{line, up, clocked_most, clocked_least}
use Rattle.tables.specs.Curves.{Graph}
use Rattle.tables.specs.Limits.{longest, limit, longest_period, longest_jitter}

pub line_graph : (n c : ℕ) → 1 ≤ n → n ≤ longest → line c n ≤ limit → Graph n (line c)
line_graph n c some few low = record {
  some = some;
  few = few;
  starts = mul-zero c;
  rises = λ k _. mul-le-mul_left c (omega arith);
  limited = low;
}

div_rises : (x y p : ℕ) → 1 ≤ p → x ≤ y → x / p ≤ y / p
div_rises x y p some h = le-div (x / p) y p some (omega (arith, div-add-mod' x p))

pub clocked_none : (p j k : ℕ) → k ≡ 0 → 0 ≡ clocked_most p j k
unfolding clocked_most
clocked_none p j k e = rw e

pub clocked_some : (p j k : ℕ) → 1 ≤ k → up p (k + j) ≡ clocked_most p j k
unfolding clocked_most
clocked_some p j zero h = absurd (omega arith)
clocked_some p j (suc k) h = refl

-- a quotient that is rounded up
pub ceil_up : (p x : ℕ) → 1 ≤ p → x / p + min 1 (x % p) ≡ up p x
ceil_up p x some =
    let q = x / p in
    let r = x % p in
    let below : r < p = mod-lt x some in
    let here : x ≡ q * p + r = sym (div-add-mod' x p) in
    ⊎_elim
    (λ (none : r < 1).
    let top : x + (p - 1) ≡ q * p + (p - 1) = omega arith in
    omega (arith, ap (λ n. n / p) top, div-mul-add q p (p - 1) (omega arith)))
    (λ (more : 1 ≤ r).
    let top : x + (p - 1) ≡ (q + 1) * p + (r - 1) = omega (arith, add-mul q 1 p, one-mul p) in
    omega (arith, ap (λ n. n / p) top, div-mul-add (q + 1) p (r - 1) (omega arith)))
    (cases_lt r 1)

module _ (n p j : ℕ) (some : 1 ≤ n) (few : n ≤ longest) (ticks : 1 ≤ p) where
  pub clocked_graph : p ≤ longest_period → j ≤ longest_jitter → Graph n (clocked_most p j)
  unfolding clocked_most
  clocked_graph often near = record { some = some; few = few; starts = refl; rises = λ k _. rw add-one (step k); limited = high n few }
    where
      step : (k : ℕ) → clocked_most p j k ≤ clocked_most p j (suc k)
      step zero = omega arith
      step (suc k) = div_rises (suc k + j + (p - 1)) (suc (suc k) + j + (p - 1)) p ticks (omega arith)

      high : (k : ℕ) → k ≤ longest → clocked_most p j k ≤ limit
      high zero h = omega arith
      high (suc k) h = omega (arith, div-le_self (suc k + j + (p - 1)) p)

  pub least_graph : Graph n (clocked_least p j)
  least_graph = record {
    some = some;
    few = few;
    starts = omega (arith, div-le_self (0 - j) p);
    rises = λ k _. div_rises (k - j) (k + 1 - j) p ticks (omega arith);
    limited = omega (arith, div-le_self (n - j) p);
  }

-- a clock hands over no less than the least
pub clocked_under : (p j k : ℕ) → 1 ≤ p → clocked_least p j k ≤ clocked_most p j k
unfolding clocked_most
clocked_under p j zero ticks = omega (arith, div-le_self (0 - j) p)
clocked_under p j (suc k) ticks = div_rises (suc k - j) (suc k + j + (p - 1)) p ticks (omega arith)
