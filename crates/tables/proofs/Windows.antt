-- What the windows of a list keep.
use Rattle.std.proofs.Common.{◌≡◌, ℕ, zero, suc, ◌+◌, ◌-◌, ◌<◌, ◌≤◌, min, Bool, true, false, leb, List, length, get_or, take, drop, ap, ◌∙◌, arith}
use Rattle.std.proofs.lemmas.Bool.{leb-true, leb-false}
use Rattle.std.proofs.lemmas.List.{get_or-take, get_or-drop}
use Rattle.tables.specs.Bottoms.{kept_from, kept_by, Kept, Broken}
use Rattle.tables.specs.Courses.{sum, recorded}
use Rattle.tables.specs.Ranges.{every}
use Rattle.tables.specs.Tables.{at, entry}
use Rattle.tables.specs.declared.table.Table.{Table}
use Rattle.tables.proofs.Frames.{under_frames}
use Rattle.tables.proofs.Ranges.{every_each, every_some}
use Rattle.tables.proofs.Tables.{at_within}

-- the test of a window of k counts from i on
abbrev pub Fits : (ℕ → ℕ) → List ℕ → ℕ → ℕ → Bool
Fits f xs i k = leb (sum (recorded xs) (i + k)) (sum (recorded xs) i + f k)

-- the counts of a window
pub window_at : (xs : List ℕ) (i n k : ℕ) → k < n → get_or (take n (drop i xs)) k 0 ≡ get_or xs (i + k) 0
window_at xs i n k h = get_or-take n (drop i xs) k 0 h ∙ get_or-drop i xs k 0

module _ (n : ℕ) (f : ℕ → ℕ) (xs : List ℕ) where
  -- the windows from i on, up to the last that is inside the frame and the list
  pub kept_last : (i last : ℕ) → last ≡ min n (length xs - i) → every 1 last (Fits f xs i) ≡ kept_from n f xs i
  unfolding kept_from
  kept_last i last e = ap (λ m. every 1 m (Fits f xs i)) e

  kept_short : kept_by n f xs ≡ true → (i k : ℕ) → k ≤ n → i + k ≤ length xs → sum (recorded xs) (i + k) ≤ sum (recorded xs) i + f k
  unfolding kept_by kept_from
  kept_short h i zero l b = let e : i + 0 ≡ i = omega arith in omega (arith, ap (sum (recorded xs)) e)
  kept_short h i (suc k) l b =
      let row = every_each (kept_from n f xs) 0 (length xs) h i (omega arith) (omega arith) in
      leb-true (sum (recorded xs) (i + suc k)) (sum (recorded xs) i + f (suc k))
      (every_each (Fits f xs i) 1 (min n (length xs - i)) row (suc k) (omega arith) (omega arith))

  pub broken : kept_by n f xs ≡ false → Broken f xs
  unfolding kept_by kept_from
  broken h =
      let (i, _, in_List, row) = every_some (kept_from n f xs) 0 (length xs) h in
      let (k, _, in_frame, is) = every_some (Fits f xs i) 1 (min n (length xs - i)) row in
      record {
        start = i;
        span = k;
        inside = omega arith;
        above = leb-false (sum (recorded xs) (i + k)) (sum (recorded xs) i + f k) is;
      }

-- the windows up to the frame are enough
pub kept : (t : Table) (xs : List ℕ) → kept_by t.frame (at t) xs ≡ true → Kept (at t) xs
unfolding at
kept t xs h = record {
  under = λ i k l.
      under_frames (length xs) t.frame (entry t) (sum (recorded xs)) t.some
      (λ j n few b. omega (arith, kept_short t.frame (at t) xs h j n few b, at_within t n few)) k i l;
}
