-- What the bottom flows keep.
use Rattle.std.proofs.Common.{◌≡◌, ℕ, zero, suc, ◌+◌, ◌-◌, ◌*◌, ◌/◌, ◌≤◌, List, [], ◌∷◌, length, get_or, refl, ap, mul-le-mul_left, arith}
use native.Mathlib.Decide.{dec_le, le_ind}
use Rattle.tables.specs.Curves.{Graph, repeated}
use Rattle.tables.proofs.Curves.{rises_to}
use Rattle.tables.proofs.Ranges.{largest_ge, smallest_le}
use Rattle.courses.specs.Bottoms.{steady, clocked}
use Rattle.courses.specs.Courses.{Keeps}
use Rattle.tables.proofs.Circles.{circle}
use Rattle.tables.proofs.Frames.{by_frames}
use Rattle.courses.proofs.Frames.{keeps_frames}
use Rattle.tables.proofs.Sums.{sum_rises, sum_later}
use Rattle.courses.proofs.Sums.{keeps_all}
use Rattle.tables.specs.Courses.{later, recorded, slotted, sum}
use Rattle.tables.specs.Bottoms.{clocked_least, clocked_most, line, slotted_least, slotted_most, up}

steady_sum : (c t : ℕ) → sum (steady c) t ≡ c * t
steady_sum c zero = omega arith
steady_sum c (suc t) = omega (arith, steady_sum c t)

pub keeps_steady : (c : ℕ) → Keeps (line c) (line c) (steady c)
keeps_steady c = keeps_all (λ i k. omega (arith, steady_sum c i, steady_sum c (i + k))) (λ i k. omega (arith, steady_sum c i, steady_sum c (i + k)))

-- rounding
up_sum : (p x y : ℕ) → 1 ≤ p → up p (x + y) ≤ up p x + up p y
up_sum p x y some = elim (dec_le (up p (x + y)) (up p x + up p y)) [
  | yes g ↦ g
  | no g ↦
      let h : suc (up p x + up p y) ≤ up p (x + y) = omega arith in
      absurd (omega (arith, mul-le-mul_left p h))
]

up_down : (p x y : ℕ) → 1 ≤ p → up p x + y / p ≤ up p (x + y)
up_down p x y some = elim (dec_le (up p x + y / p) (up p (x + y))) [
  | yes g ↦ g
  | no g ↦
      let h : suc (up p (x + y)) ≤ up p x + y / p = omega arith in
      absurd (omega (arith, mul-le-mul_left p h))
]

up_rises : (p x y : ℕ) → 1 ≤ p → x ≤ y → up p x ≤ up p y
up_rises p x y some h = let z : x + (y - x) ≡ y = omega arith in omega (arith, up_down p x (y - x) some, ap (up p) z)

module _ (p j : ℕ) (some : 1 ≤ p) where
  -- by the end of tick t
  pub clocked_sum : (t : ℕ) → sum (clocked p j) t ≡ clocked_most p j t
  unfolding clocked_most
  clocked_sum zero = refl
  clocked_sum (suc zero) = omega arith
  clocked_sum (suc (suc t)) = omega (arith, clocked_sum (suc t), up_rises p (suc t + j) (suc (suc t) + j) some (omega arith))

  under : (i k : ℕ) → clocked_most p j (i + k) ≤ clocked_most p j i + clocked_most p j k
  unfolding clocked_most
  under zero k = let z : 0 + k ≡ k = omega arith in omega (arith, ap (clocked_most p j) z)
  under (suc i) zero = let z : suc i + 0 ≡ suc i = omega arith in omega (arith, ap (clocked_most p j) z)
  under (suc i) (suc k) =
      let z : suc i + suc k ≡ suc (i + suc k) = omega arith in
      let y : suc (i + suc k) + j ≡ suc i + j + suc k = omega arith in
      omega (arith, ap (clocked_most p j) z, ap (up p) y, up_sum p (suc i + j) (suc k) some, up_rises p (suc k) (suc k + j) some (omega arith))

  over : (i k : ℕ) → clocked_most p j i + clocked_least p j k ≤ clocked_most p j (i + k)
  unfolding clocked_most
  over zero zero = omega arith
  over zero (suc k) = let z : 0 + suc k ≡ suc k = omega arith in omega (arith, ap (clocked_most p j) z, up_down p 0 (suc k - j) some, up_rises p (0 + (suc k - j)) (suc k + j) some (omega arith))
  over (suc i) k =
      let z : suc i + k ≡ suc (i + k) = omega arith in
      omega (arith, ap (clocked_most p j) z, up_down p (suc i + j) (k - j) some, up_rises p (suc i + j + (k - j)) (suc (i + k) + j) some (omega arith))

  pub keeps_clocked : Keeps (clocked_most p j) (clocked_least p j) (clocked p j)
  keeps_clocked = keeps_all (λ i k. omega (arith, clocked_sum i, clocked_sum (i + k), under i k)) (λ i k. omega (arith, clocked_sum i, clocked_sum (i + k), over i k))

module _ (N : ℕ) (s : ℕ → ℕ) (some : 1 ≤ N) where
  pub keeps_slotted : Keeps (slotted_most N s) (slotted_least N s) (slotted N s)
  unfolding slotted_most slotted_least
  keeps_slotted =
      let a : ℕ → ℕ = slotted N s in
      keeps_all
      (λ i k.
      by_frames N some (λ i. sum a (i + k) ≤ sum a i + slotted_most N s k)
      (λ i h. omega (arith, sum_later a i k, largest_ge (N - 1) (λ i. sum (later i a) k) i (omega arith)))
      (λ i less. let z : i + N + k ≡ i + k + N = omega arith in omega (arith, circle N s i, circle N s (i + k), ap (sum a) z)) i)
      (λ i k.
      by_frames N some (λ i. sum a i + slotted_least N s k ≤ sum a (i + k))
      (λ i h. omega (arith, sum_later a i k, smallest_le (N - 1) (λ i. sum (later i a) k) i (omega arith)))
      (λ i less. let z : i + N + k ≡ i + k + N = omega arith in omega (arith, circle N s i, circle N s (i + k), ap (sum a) z)) i)

-- nothing comes after the list
recorded_sum : (xs : List ℕ) (t : ℕ) → length xs ≤ t → sum (recorded xs) t ≡ sum (recorded xs) (length xs)
recorded_sum xs t h = le_ind {n = length xs} (λ t. sum (recorded xs) t ≡ sum (recorded xs) (length xs)) refl (λ t h same. omega (arith, same, past xs t h)) t h
  where
    past : (xs : List ℕ) (t : ℕ) → length xs ≤ t → get_or xs t 0 ≡ 0
    past [] t h = refl
    past (x ∷ xs) zero h = absurd (omega arith)
    past (x ∷ xs) (suc t) h = past xs t (omega arith)

-- the windows inside the list are enough
module _ {N : ℕ} {most : ℕ → ℕ} (xs : List ℕ) (G : Graph N most)
    (inside : (i k : ℕ) → k ≤ N → i + k ≤ length xs → sum (recorded xs) (i + k) ≤ sum (recorded xs) i + most k) where
  short : (i k : ℕ) → k ≤ N → sum (recorded xs) (i + k) ≤ sum (recorded xs) i + most k
  short i k h = elim (dec_le (i + k) (length xs)) [
    | yes g ↦ inside i k h g
    | no g ↦ elim (dec_le i (length xs)) [
      | yes b ↦
          let d : i + (length xs - i) ≡ length xs = omega arith in
          omega (
            arith,
            recorded_sum xs (i + k) (omega arith),
            inside i (length xs - i) (omega arith) (omega arith),
            ap (sum (recorded xs)) d,
            rises_to N most G.rises (length xs - i) k (omega arith) h,
          )
      | no b ↦ omega (arith, recorded_sum xs (i + k) (omega arith), recorded_sum xs i (omega arith))
    ]
  ]

  pub keeps_recorded : Keeps (repeated N most) (repeated N (λ k. 0)) (recorded xs)
  keeps_recorded = record {
    to = λ T. keeps_frames T N most (λ k. 0) (recorded xs) G.some (λ i k h _. short i k h) (λ i k _ _. omega (arith, sum_rises (recorded xs) i (i + k) (omega arith)));
  }
