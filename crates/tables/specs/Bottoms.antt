-- The curves of the bottom flows, and the pair that is made of each, or a refusal.
use Rattle.std.specs.Prelude.{ℕ, zero, suc, ◌+◌, ◌-◌, ◌*◌, ◌/◌, ◌<◌, ◌≤◌, min, Bool, cond, ◌&&◌, leb, List, length, Ok, Err, Result, nat_le}
use Rattle.tables.specs.Courses.{sum, later, slotted, recorded}
use Rattle.tables.specs.Limits.{limit, longest_period, longest_jitter}
use Rattle.tables.specs.Makes.{framed}
use Rattle.tables.specs.Ranges.{largest, smallest, every}
use Rattle.tables.specs.Tables.{Curves, paired}
use Rattle.tables.specs.declared.refusal.Refusal.{Refusal}
use Rattle.tables.specs.declared.refusal.Refusal.TheVariants.{Frame, Clock, Table as Lawless}

-- c for each tick of a window
abbrev pub line : ℕ → ℕ → ℕ
line c k = c * k

-- the pair of c in every tick
abbrev pub steady_answer : ℕ → ℕ → Result Curves Refusal
steady_answer n c = cond (framed n) (cond (nat_le (line c n) limit) (Ok (paired n (line c) (line c))) (Err Lawless)) (Err Frame)

-- x / p rounded up
abbrev pub up : ℕ → ℕ → ℕ
up p x = (x + (p - 1)) / p

-- what a clock of period p and jitter j hands over by the end of tick t, and in k ticks at most
unfoldable pub clocked_most : ℕ → ℕ → ℕ → ℕ
clocked_most p j zero = 0
clocked_most p j (suc k) = up p (suc k + j)

-- and in k ticks at least
abbrev pub clocked_least : ℕ → ℕ → ℕ → ℕ
clocked_least p j k = (k - j) / p

-- a clock may have the period p and the jitter j
abbrev pub timed : ℕ → ℕ → Bool
timed p j = nat_le 1 p && (nat_le p longest_period && nat_le j longest_jitter)

-- the pair of a clock of period p and jitter j
abbrev pub clocked_answer : ℕ → ℕ → ℕ → Result Curves Refusal
clocked_answer n p j = cond (framed n) (cond (timed p j) (Ok (paired n (clocked_most p j) (clocked_least p j))) (Err Clock)) (Err Frame)

-- the largest sum of k neighbours on the circle of N counts
unfoldable pub slotted_most : ℕ → (ℕ → ℕ) → ℕ → ℕ
slotted_most N s k = largest (N - 1) (λ i. sum (later i (slotted N s)) k)

-- and the smallest
unfoldable pub slotted_least : ℕ → (ℕ → ℕ) → ℕ → ℕ
slotted_least N s k = smallest (N - 1) (λ i. sum (later i (slotted N s)) k)

-- the pair of a circle of n counts
abbrev pub pair_of_slots : ℕ → (ℕ → ℕ) → Curves
pair_of_slots n s = paired n (slotted_most n s) (slotted_least n s)

-- the pair of the counts xs in turn
abbrev pub slotted_answer : List ℕ → Result Curves Refusal
slotted_answer xs =
    cond (framed (length xs))
    (cond (nat_le (sum (recorded xs) (length xs)) limit) (Ok (pair_of_slots (length xs) (recorded xs))) (Err Lawless))
    (Err Frame)

-- the k counts of xs from i on make up at most f k, for each k from 1 to n inside the list
unfoldable pub kept_from : ℕ → (ℕ → ℕ) → List ℕ → ℕ → Bool
kept_from n f xs i = every 1 (min n (length xs - i)) (λ k. leb (sum (recorded xs) (i + k)) (sum (recorded xs) i + f k))

-- the same from each i of the list on
unfoldable pub kept_by : ℕ → (ℕ → ℕ) → List ℕ → Bool
kept_by n f xs = every 0 (length xs) (kept_from n f xs)

-- every window of xs, of any length k, makes up at most f k
pub record Kept (f : ℕ → ℕ) (xs : List ℕ) : Type 0 where
  pub under : (i k : ℕ) → i + k ≤ length xs → sum (recorded xs) (i + k) ≤ sum (recorded xs) i + f k

-- some window of xs makes up more
pub record Broken (f : ℕ → ℕ) (xs : List ℕ) : Type 0 where
  pub start : ℕ
  pub span : ℕ
  pub inside : start + span ≤ length xs
  pub above : sum (recorded xs) start + f span < sum (recorded xs) (start + span)
