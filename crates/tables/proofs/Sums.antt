-- Sums of courses.
use Rattle.std.proofs.Common.{◌≡◌, ℕ, zero, suc, ◌+◌, ◌≤◌, List, length, take, refl, ap, add-one, arith}
use native.Mathlib.Decide.{le_ind}
use Rattle.std.specs.List.{sum as list_sum}
use Rattle.std.proofs.lemmas.List.{take_all}
use Rattle.std.proofs.lemmas.List.Sums.{sum_by_more}
use Rattle.tables.specs.Courses.{sum, later, recorded}

pub sum_more : (a : ℕ → ℕ) (t : ℕ) → sum a (t + 1) ≡ sum a t + a t
sum_more a t = rw add-one

pub sum_rises : (a : ℕ → ℕ) (v t : ℕ) → v ≤ t → sum a v ≤ sum a t
sum_rises a v t h = le_ind {n = v} (λ t. sum a v ≤ sum a t) (omega arith) (λ t h less. omega arith) t h

pub sum_later : (a : ℕ → ℕ) (n k : ℕ) → sum a n + sum (later n a) k ≡ sum a (n + k)
sum_later a n zero = let z : n ≡ n + 0 = omega arith in omega (arith, ap (sum a) z)
sum_later a n (suc k) = let z : n + suc k ≡ suc (n + k) = omega arith in omega (arith, sum_later a n k, ap (sum a) z)

-- the first k counts of a list
pub sum_taken : (xs : List ℕ) (k : ℕ) → k ≤ length xs → list_sum (take k xs) ≡ sum (recorded xs) k
sum_taken xs zero h = refl
sum_taken xs (suc k) h =
    let e : k + 1 ≡ suc k = omega arith in
    omega (arith, ap (λ n. list_sum (take n xs)) e, sum_by_more (λ x. x) xs k 0 (omega arith), sum_taken xs k (omega arith))

pub sum_all : (xs : List ℕ) → list_sum xs ≡ sum (recorded xs) (length xs)
sum_all xs = omega (arith, sum_taken xs (length xs) (omega arith), ap list_sum (take_all (length xs) xs (omega arith)))

-- a window of k counts from i on, with one more
pub window_more : (a : ℕ → ℕ) (i k m : ℕ) → sum a i + m ≡ sum a (i + k) → sum a i + (m + a (i + k)) ≡ sum a (i + (k + 1))
window_more a i k m is = let next : i + k + 1 ≡ i + (k + 1) = omega arith in omega (arith, sum_more a (i + k), ap (sum a) next)
