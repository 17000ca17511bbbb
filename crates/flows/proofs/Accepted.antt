-- What an input that is not turned down keeps.
use Rattle.std.proofs.Common.{◌≡◌, ℕ, ◌≤◌, Bool, true, false, cond, ◌&&◌, leb, List, length, Ok, Err, Result, sym, refl, subst, arith}
use Rattle.std.proofs.lemmas.Bool.{and_parts, leb-true}
use Rattle.courses.specs.Bottoms.{steady, clocked}
use Rattle.courses.specs.Courses.{Keeps}
use Rattle.courses.proofs.Bottoms.{keeps_steady, keeps_clocked, keeps_slotted, keeps_recorded}
use Rattle.tables.specs.Bottoms.{clocked_answer, clocked_least, clocked_most, kept_by, line, slotted_answer, pair_of_slots, steady_answer, timed}
use Rattle.tables.specs.Courses.{recorded, slotted, sum}
use Rattle.tables.specs.Limits.{longest, limit, longest_period, longest_jitter}
use Rattle.tables.specs.Makes.{framed}
use Rattle.tables.specs.Tables.{Curves, at, capped, curve, curves, entry, paired}
use Rattle.tables.specs.declared.pair.Pair.{Pair}
use Rattle.tables.specs.declared.table.Table.{Table}
use Rattle.tables.specs.declared.refusal.Refusal.{Refusal}
use Rattle.tables.specs.declared.refusal.Refusal.TheVariants.{Clock, Frame, Promise, Table as Lawless}
use Rattle.tables.proofs.Tables.{at_within, graph}
use Rattle.tables.proofs.Windows.{kept}
use Rattle.flows.specs.Checks.{recorded_answer}
use Rattle.flows.specs.Views.{KeepsPair}
use Rattle.flows.proofs.Kept.{keeps_by}

-- a pair comes of a test that holds
pub passes : {X : Type 0} (b : Bool) (x : X) (r : Result X Refusal) (e : Refusal) → Ok x ≡ cond b r (Err e) → (b ≡ true) × (Ok x ≡ r)
passes true x r e h = (refl, h)
passes false x r e h = let z : ◌≡◌ {A = ℕ} 0 1 = cc in absurd (omega arith)

-- equal pairs of equal answers
pub same_ok : {X : Type 0} (x y : X) → ◌≡◌ {A = Result X Refusal} (Ok x) (Ok y) → x ≡ y
same_ok x y h = cc

pub frame_of : (n : ℕ) → framed n ≡ true → (1 ≤ n) × (n ≤ longest)
frame_of n h = let parts = and_parts (leb 1 n) (leb n longest) h in (leb-true 1 n parts.0, leb-true n longest parts.1)

pub steady_sound : (n c : ℕ) (p : Pair) → Ok (curves p) ≡ steady_answer n c → KeepsPair p (steady c)
steady_sound n c p h =
    let outer = passes (framed n) (curves p) (cond (leb (line c n) limit) (Ok (paired n (line c) (line c))) (Err Lawless)) Frame h in
    let inner = passes (leb (line c n) limit) (curves p) (Ok (paired n (line c) (line c))) Lawless outer.1 in
    keeps_by p n (frame_of n outer.0).0 (same_ok (curves p) (paired n (line c) (line c)) inner.1) (keeps_steady c)

-- a clock that is accepted
pub record Timed (p j : ℕ) (q : Pair) : Type 0 where
  pub ticks : 1 ≤ p
  pub keeps : KeepsPair q (clocked p j)

pub clocked_sound : (n p j : ℕ) (q : Pair) → Ok (curves q) ≡ clocked_answer n p j → Timed p j q
clocked_sound n p j q h =
    let made = paired n (clocked_most p j) (clocked_least p j) in
    let outer = passes (framed n) (curves q) (cond (timed p j) (Ok made) (Err Clock)) Frame h in
    let inner = passes (timed p j) (curves q) (Ok made) Clock outer.1 in
    let parts = and_parts (leb 1 p) (leb p longest_period && leb j longest_jitter) inner.0 in
    let ticks : 1 ≤ p = leb-true 1 p parts.0 in
    record { ticks = ticks; keeps = keeps_by q n (frame_of n outer.0).0 (same_ok (curves q) made inner.1) (keeps_clocked p j ticks) }

-- and a list of counts in turn
pub record Slots (xs : List ℕ) (q : Pair) : Type 0 where
  pub some : 1 ≤ length xs
  pub few : length xs ≤ longest
  pub keeps : KeepsPair q (slotted (length xs) (recorded xs))

pub slotted_sound : (xs : List ℕ) (q : Pair) → Ok (curves q) ≡ slotted_answer xs → Slots xs q
slotted_sound xs q h =
    let n = length xs in
    let s = recorded xs in
    let made = pair_of_slots n s in
    let low = leb (sum s n) limit in
    let outer = passes (framed n) (curves q) (cond low (Ok made) (Err Lawless)) Frame h in
    let inner = passes low (curves q) (Ok made) Lawless outer.1 in
    let frame = frame_of n outer.0 in
    record { some = frame.0; few = frame.1; keeps = keeps_by q n frame.0 (same_ok (curves q) made inner.1) (keeps_slotted n s frame.0) }

pub recorded_sound : (t : Table) (xs : List ℕ) (q : Pair) → Ok (curves q) ≡ recorded_answer (curve t) xs → KeepsPair q (recorded xs)
unfolding at
recorded_sound t xs q h =
    let made = capped (curve t) in
    let test = passes (kept_by t.frame (at t) xs) (curves q) (Ok made) Promise h in
    let windows = kept t xs test.0 in
    let shown : Curves → Type 0 = λ c. Keeps c.most c.least (recorded xs) in
    subst shown (sym (same_ok (curves q) made test.1))
    (keeps_recorded {N = t.frame} {most = entry t} xs (graph t) (λ i k few inside. omega (arith, windows.under i k inside, at_within t k few)))
