-- What holds up to a frame, and goes on by frames.
use Rattle.std.proofs.Common.{◌≡◌, ℕ, zero, suc, ◌+◌, ◌<◌, ◌≤◌, true, leb, refl, ap, arith}
use Rattle.std.proofs.lemmas.Bool.{leb-true}
use Rattle.tables.specs.Curves.{Graph, repeated, subadditive, subadditive_at}
use Rattle.tables.proofs.Curves.{rises_far}
use Rattle.tables.proofs.Ranges.{every_each}
use Rattle.tables.proofs.Tables.{repeated_near, repeated_later, repeated_within, repeated_rises}
use Rattle.tables.proofs.Frames.{by_frames, under_frames}
use Rattle.courses.specs.Courses.{KeepsTo}
use Rattle.tables.specs.Courses.{sum}

module _ (T N : ℕ) (f A : ℕ → ℕ) (some : 1 ≤ N) where
  -- a bound from below of the windows up to N holds at every length
  pub over_frames : ((i k : ℕ) → k ≤ N → i + k ≤ T → A i + f k ≤ A (i + k)) → (k i : ℕ) → i + k ≤ T → A i + repeated N f k ≤ A (i + k)
  over_frames short =
      by_frames N some (λ k. (i : ℕ) → i + k ≤ T → A i + repeated N f k ≤ A (i + k))
      (λ k h i l. omega (arith, short i k (omega arith) l, repeated_near N f some k h))
      (λ k holds i l.
      let e : i + k + N ≡ i + (k + N) = omega arith in
      omega (arith, holds i (omega arith), short (i + k) N (omega arith) (omega arith), ap A e, repeated_later N f some k))

-- what is kept up to the frame is kept by the repeated tables
pub keeps_frames : (T N : ℕ) (most least a : ℕ → ℕ) → 1 ≤ N
    → ((i k : ℕ) → k ≤ N → i + k ≤ T → sum a (i + k) ≤ sum a i + most k)
    → ((i k : ℕ) → k ≤ N → i + k ≤ T → sum a i + least k ≤ sum a (i + k))
    → KeepsTo T (repeated N most) (repeated N least) a
keeps_frames T N most least a some under over = record {
  under = λ i k l. under_frames T N most (sum a) some under k i l;
  over = λ i k l. over_frames T N least (sum a) some over k i l;
}

-- and so is what is kept at every length
pub keeps_repeated : {T : ℕ} {most least a : ℕ → ℕ} (N : ℕ) → 1 ≤ N → KeepsTo T most least a → KeepsTo T (repeated N most) (repeated N least) a
keeps_repeated {T} {most} {least} {a} N some K = keeps_frames T N most least a some (λ i k _ l. K.under i k l) (λ i k _ l. K.over i k l)

-- the curve of a table: it starts at 0, rises, and goes on by frames
module _ {N : ℕ} {h : ℕ → ℕ} (G : Graph N h) where
  pub curve_starts : repeated N h 0 ≡ 0
  curve_starts = omega (arith, repeated_near N h G.some 0 G.some, G.starts)

  pub curve_within : (k : ℕ) → k ≤ N → repeated N h k ≡ h k
  curve_within = repeated_within N h G.some G.starts

  pub curve_rises : (i j : ℕ) → i ≤ j → repeated N h i ≤ repeated N h j
  curve_rises = rises_far (repeated N h) (repeated_rises N h G.some G.starts G.rises)

  pub curve_later : (k j : ℕ) → k + N ≡ j → repeated N h j ≡ repeated N h k + repeated N h N
  curve_later k j e = omega (arith, repeated_later N h G.some k, ap (repeated N h) e, curve_within N (omega arith))

-- the shaping rule up to the frame gives it at every length
module _ {N : ℕ} {h : ℕ → ℕ} (G : Graph N h) (rule : subadditive N (repeated N h) ≡ true) where
  small : (i k j : ℕ) → i < N → k < N → i + k ≡ j → repeated N h j ≤ repeated N h i + repeated N h k
  unfolding subadditive subadditive_at
  small zero k j b c e = let d : k ≡ j = omega arith in omega (arith, ap (repeated N h) d)
  small (suc i) zero j b c e = let d : suc i ≡ j = omega arith in omega (arith, ap (repeated N h) d)
  small (suc i) (suc k) j b c e =
      let row = every_each (subadditive_at N (repeated N h)) 1 N rule (suc i) (omega arith) (omega arith) in
      let both = every_each (λ n. leb (repeated N h (suc i + n)) (repeated N h (suc i) + repeated N h n)) 1 N row (suc k) (omega arith) (omega arith) in
      omega (arith, leb-true (repeated N h (suc i + suc k)) (repeated N h (suc i) + repeated N h (suc k)) both, ap (repeated N h) e)

  pub subadditive_all : (i k j : ℕ) → i + k ≡ j → repeated N h j ≤ repeated N h i + repeated N h k
  subadditive_all =
      by_frames N G.some (λ i. (k j : ℕ) → i + k ≡ j → repeated N h j ≤ repeated N h i + repeated N h k)
      (λ i b.
      by_frames N G.some (λ k. (j : ℕ) → i + k ≡ j → repeated N h j ≤ repeated N h i + repeated N h k)
      (λ k c j e. small i k j b c e)
      (λ k holds j e. omega (arith, holds (i + k) refl, curve_later G (i + k) j (omega arith), curve_later G k (k + N) refl)))
      (λ i holds k j e. omega (arith, holds k (i + k) refl, curve_later G (i + k) j (omega arith), curve_later G i (i + N) refl))
