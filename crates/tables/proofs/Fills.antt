-- Loops that write f k at each place k of an array.
use Rattle.std.proofs.Common.{◌≡◌, ℕ, ◌+◌, ◌<◌, ◌≤◌, ◌≢◌, List, length, get_or, set, sym, ◌∙◌, arith, length-set, get_or-set_other, get_or-set_same, below_more}
use Rattle.tables.specs.Curves.{Graph, repeated}
use Rattle.tables.specs.Limits.{longest, limit}
use Rattle.tables.proofs.Tables.{repeated_later, repeated_within}

-- an array of size places, with f j at each place j below n
pub record Filled (size n : ℕ) (f : ℕ → ℕ) (xs : List ℕ) : Type 0 where
  pub long : length xs ≡ size
  pub each : (j : ℕ) → j < n → get_or xs j 0 ≡ f j

pub filled_more : {size n : ℕ} {f : ℕ → ℕ} {xs : List ℕ} {v : ℕ} → Filled size n f xs → n < size → v ≡ f n → Filled size (n + 1) f (set xs n v)
filled_more {size} {n} {f} {xs} {v} old room is = record {
  long = length-set xs n v ∙ old.long;
  each =
      let fits : n < length xs = omega (arith, old.long) in
      below_more (λ j. get_or (set xs n v) j 0 ≡ f j) n
      (λ j h. let ne : j ≢ n = omega arith in rw get_or-set_other (old.each j h))
      (rw get_or-set_same is);
}

pub filled_one : {size : ℕ} {f : ℕ → ℕ} {xs : List ℕ} → f 0 ≡ 0 → length xs ≡ size → get_or xs 0 0 ≡ 0 → Filled size 1 f xs
filled_one {size} {f} {xs} starts long zero-first = record {
  long = long;
  each = λ j h. let e : j ≡ 0 = omega arith in rw e (zero-first ∙ sym starts);
}

pub filled_front : {n size : ℕ} {f : ℕ → ℕ} {xs : List ℕ} → Graph n f → length xs ≡ size → ((k : ℕ) → k ≤ n → get_or xs k 0 ≡ f k) → Filled size (n + 1) (repeated n f) xs
filled_front {n} {size} {f} {xs} g long is = record { long = long; each = λ k h. is k (omega arith) ∙ sym (repeated_within n f g.some g.starts k (omega arith)) }

-- what a table keeps, of an array that is filled with what repeats f
pub laid_out : {n m : ℕ} {f : ℕ → ℕ} {xs : List ℕ} → Graph n f → Filled 129 m (repeated n f) xs → 129 ≤ m
    → record {
      some : 1 ≤ n;
      few : n ≤ longest;
      starts : get_or xs 0 0 ≡ 0;
      rises : (k : ℕ) → k < n → get_or xs k 0 ≤ get_or xs (k + 1) 0;
      limited : get_or xs n 0 ≤ limit;
      repeats : (k : ℕ) → k + n < 129 → get_or xs (k + n) 0 ≡ get_or xs k 0 + get_or xs n 0;
    }
laid_out {n} {m} {f} {xs} g h end =
    let at_each : (k : ℕ) → k ≤ n → get_or xs k 0 ≡ f k = λ k l. h.each k (omega (arith, g.few)) ∙ repeated_within n f g.some g.starts k l in record {
      some = g.some;
      few = g.few;
      starts = at_each 0 (omega arith) ∙ g.starts;
      rises = λ k l. omega (arith, at_each k (omega arith), at_each (k + 1) (omega arith), g.rises k l);
      limited = omega (arith, at_each n (omega arith), g.limited);
      repeats = λ k l. omega (arith, h.each (k + n) (omega arith), h.each k (omega arith), repeated_later n f g.some k, at_each n (omega arith));
    }
