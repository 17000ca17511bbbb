-- What follows of a table's entries and of those that it repeats.
use Rattle.std.proofs.Common.{◌≡◌, ℕ, zero, suc, ◌+◌, ◌-◌, ◌*◌, ◌/◌, ◌%◌, ◌<◌, ◌≤◌, sym, ap, ◌∙◌, ⊎_elim, mod-lt, add-mul, eq-or-lt_of_le, one-mul, div-add-mod', arith}
use mathlib.Core.Path.{fun_ext}
use Rattle.std.proofs.lemmas.Nat.{div-mul-add, mod-mul-add}
use Rattle.std.proofs.lemmas.Bool.{cases_lt}
use Rattle.tables.specs.Curves.{Graph, repeated}
use Rattle.tables.specs.Limits.{limit}
use Rattle.tables.specs.Tables.{entry, at, Shows, curve, tabled}
use Rattle.tables.specs.declared.table.Table.{Table}
use Rattle.tables.proofs.Curves.{Rises, graph_le}

module _ (n : ℕ) (f : ℕ → ℕ) where
  -- at q frames and r ticks
  pub repeated_parts : (q r : ℕ) → r < n → repeated n f (q * n + r) ≡ q * f n + f r
  unfolding repeated
  repeated_parts q r h = rw (div-mul-add q n r h, mod-mul-add q n r h)

  module _ (some : 1 ≤ n) where
    pub repeated_near : (k : ℕ) → k < n → repeated n f k ≡ f k
    repeated_near k l =
        let part : k ≡ 0 * n + k = omega arith in
        omega (arith, ap (repeated n f) part, repeated_parts 0 k l)

    -- one frame later
    pub repeated_later : (k : ℕ) → repeated n f (k + n) ≡ repeated n f k + f n
    repeated_later k =
        let q = k / n in
        let r = k % n in
        let below : r < n = mod-lt k some in
        let here : k ≡ q * n + r = sym (div-add-mod' k n) in
        let there : k + n ≡ (q + 1) * n + r = omega (arith, add-mul q 1 n, one-mul n) in
        let at_here : repeated n f k ≡ q * f n + f r = ap (repeated n f) here ∙ repeated_parts q r below in
        let at_there : repeated n f (k + n) ≡ (q + 1) * f n + f r = ap (repeated n f) there ∙ repeated_parts (q + 1) r below in
        omega (arith, add-mul q 1 (f n), one-mul (f n))

    pub repeated_within : f 0 ≡ 0 → (k : ℕ) → k ≤ n → repeated n f k ≡ f k
    repeated_within starts k h =
        ⊎_elim
        (λ (e : k ≡ n).
        let whole : k ≡ 0 + n = omega arith in
        omega (arith, ap (repeated n f) whole, repeated_later 0, repeated_near 0 some, starts, ap f e))
        (λ (l : k < n). repeated_near k l)
        (eq-or-lt_of_le h)

    pub repeated_rises : f 0 ≡ 0 → ((k : ℕ) → k < n → f k ≤ f (k + 1)) → Rises (repeated n f)
    repeated_rises starts rises k =
        let q = k / n in
        let r = k % n in
        let below : r < n = mod-lt k some in
        let here : k ≡ q * n + r = sym (div-add-mod' k n) in
        let at_here : repeated n f k ≡ q * f n + f r = ap (repeated n f) here ∙ repeated_parts q r below in
        let step : f r ≤ f (r + 1) = rises r below in
        ⊎_elim
        (λ (e : suc r ≡ n).
        let next : k + 1 ≡ (q + 1) * n + 0 = omega (arith, add-mul q 1 n, one-mul n) in
        let there : repeated n f (k + 1) ≡ (q + 1) * f n + f 0 = ap (repeated n f) next ∙ repeated_parts (q + 1) 0 some in
        let top : r + 1 ≡ n = omega arith in
        omega (arith, ap f top, add-mul q 1 (f n), one-mul (f n)))
        (λ (l : suc r < n).
        let next : k + 1 ≡ q * n + (r + 1) = omega arith in
        let there : repeated n f (k + 1) ≡ q * f n + f (r + 1) = ap (repeated n f) next ∙ repeated_parts q (r + 1) (omega arith) in
        omega arith)
        (eq-or-lt_of_le below)

-- only the counts of the frame matter
pub repeated_same : (n : ℕ) (f g : ℕ → ℕ) → 1 ≤ n → ((k : ℕ) → k ≤ n → f k ≡ g k) → repeated n f ≡ repeated n g
unfolding repeated
repeated_same n f g some same =
    fun_ext (λ k. let below : k % n < n = mod-lt k some in λ i. (k / n) * same n (omega arith) i + same (k % n) (omega arith) i)

-- and at every length it is at most the limit for each tick
pub repeated_le : {n : ℕ} {f : ℕ → ℕ} → Graph n f → (k : ℕ) → repeated n f k ≤ k * limit
repeated_le {n} {f} g k = by k k (omega arith)
  where
    within : (k : ℕ) → k < n → f k ≤ k * limit
    within zero h = omega (arith, g.starts)
    within (suc k) h = omega (arith, graph_le g (suc k) (omega arith))

    by : (fuel k : ℕ) → k ≤ fuel → repeated n f k ≤ k * limit
    by zero k h =
        let e : k ≡ 0 = omega arith in
        omega (arith, ap (repeated n f) e, repeated_near n f g.some 0 g.some, g.starts)
    by (suc fuel) k h =
        ⊎_elim
        (λ (near : k < n). omega (arith, repeated_near n f g.some k near, within k near))
        (λ (far : n ≤ k).
        let j = k - n in
        let whole : k ≡ j + n = omega arith in
        omega (arith, ap (repeated n f) whole, repeated_later n f g.some j, by fuel j (omega (arith, g.some)), g.limited, g.some))
        (cases_lt k n)

-- the repeated entries of any table
module _ (t : Table) where
  pub graph : Graph t.frame (entry t)
  graph = record { some = t.some; few = t.few; starts = t.starts; rises = t.rises; limited = t.limited }

  pub at_within : (k : ℕ) → k ≤ t.frame → at t k ≡ entry t k
  unfolding at
  at_within = repeated_within t.frame (entry t) t.some t.starts

  pub at_zero : at t 0 ≡ 0
  at_zero = at_within 0 (omega arith) ∙ t.starts

  pub at_rises : Rises (at t)
  unfolding at
  at_rises = repeated_rises t.frame (entry t) t.some t.starts t.rises

  pub at_later : (k : ℕ) → at t (k + t.frame) ≡ at t k + entry t t.frame
  unfolding at
  at_later = repeated_later t.frame (entry t) t.some

  pub at_le : (k : ℕ) → k ≤ t.frame → at t k ≤ limit
  at_le k h = omega (arith, at_within k h, graph_le graph k h)

  pub at_small : (k : ℕ) → at t k ≤ k * limit
  unfolding at
  at_small = repeated_le graph

  -- the entries that are laid out are the repeated ones
  near_by : (fuel k : ℕ) → k ≤ fuel → k < 129 → entry t k ≡ at t k
  near_by zero k h l = let e : k ≡ 0 = omega arith in sym (at_within k (omega arith))
  near_by (suc fuel) k h l =
      ⊎_elim
      (λ (in_frame : k < t.frame). sym (at_within k (omega arith)))
      (λ (past : t.frame ≤ k).
      let j = k - t.frame in
      let whole : k ≡ j + t.frame = omega arith in
      omega (arith, ap (entry t) whole, ap (at t) whole, t.repeats j (omega arith), at_later j, near_by fuel j (omega (arith, t.some)) (omega arith)))
      (cases_lt k t.frame)

  pub near_is : (k : ℕ) → k ≤ 128 → entry t k ≡ at t k
  near_is k h = near_by k k (omega arith) (omega arith)

-- a table by what it shows
pub shows_at : {t : Table} {n : ℕ} {f : ℕ → ℕ} → Shows t n f → (k : ℕ) → k ≤ n → at t k ≡ f k
shows_at {t} h k l = at_within t k (omega (arith, h.frame)) ∙ h.each k l

pub shows_all : {t : Table} {n : ℕ} {f : ℕ → ℕ} → Shows t n f → at t ≡ repeated n f
unfolding at
shows_all {t} {n} {f} h = ap (λ m. repeated m (entry t)) h.frame ∙ repeated_same n (entry t) f (omega (arith, h.frame, t.some)) h.each

pub shows_curve : {t : Table} {n : ℕ} {f : ℕ → ℕ} → Shows t n f → curve t ≡ tabled n f
shows_curve h = λ i. record { frame = h.frame i; count = shows_all h i }

pub shows_to : {t : Table} {n m : ℕ} {f g : ℕ → ℕ} → n ≡ m → ((k : ℕ) → k ≤ m → f k ≡ g k) → Shows t n f → Shows t m g
shows_to e same h = record { frame = h.frame ∙ e; each = λ k l. h.each k (omega arith) ∙ same k l }
