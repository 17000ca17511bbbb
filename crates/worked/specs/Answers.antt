-- Answers as the examples show them: the counts of each table at the lengths 1 to its frame.
use Rattle.std.specs.Prelude.{ℕ, List, map, Ok, Err, Result}
use Rattle.std.specs.List.{range_with_len}
use Rattle.tables.specs.Bounds.{Serving, Shaping}
use Rattle.tables.specs.Makes.{answer}
use Rattle.tables.specs.Tables.{Curve, Curves, row}
use Rattle.tables.specs.declared.refusal.Refusal.{Refusal}

-- the answer of f to what the answers before it give; a refusal of these stands
abbrev pub on : {X Y : Type 0} → Result X Refusal → (X → Result Y Refusal) → Result Y Refusal
on (Ok x) f = f x
on (Err e) f = Err e

abbrev pub on_both : {X Y Z : Type 0} → Result X Refusal → Result Y Refusal → (X → Y → Result Z Refusal) → Result Z Refusal
on_both a b f = on a (λ x. on b (f x))

abbrev pub shown : Curve → List ℕ
shown c = row c.frame c.count

-- a pair
pub record Rows : Type 0 where
  pub most : List ℕ
  pub least : List ℕ

abbrev pub rows : Curves → Rows
rows c = record { most = row c.frame c.most; least = row c.frame c.least }

-- the bounds of a server
pub record ServerRows : Type 0 where
  pub settling : ℕ
  pub wait : ℕ
  pub delay : ℕ
  pub passed : Rows
  pub rest : Rows

abbrev pub server_rows : Serving → ServerRows
server_rows b = record { settling = b.settling; wait = b.wait; delay = b.delay; passed = rows b.passed; rest = rows b.rest }

-- the bounds of a shaper
pub record ShaperRows : Type 0 where
  pub wait : ℕ
  pub delay : ℕ
  pub passed : Rows

abbrev pub shaper_rows : Shaping → ShaperRows
shaper_rows b = record { wait = b.wait; delay = b.delay; passed = rows b.passed }

-- what a server passes, and what it leaves
abbrev pub passed_by : Result Serving Refusal → Result Curves Refusal
passed_by = answer (λ b. b.passed)

abbrev pub left_by : Result Serving Refusal → Result Curves Refusal
left_by = answer (λ b. b.rest)

-- what a course hands over in each of the first n ticks
abbrev pub ticks : ℕ → (ℕ → ℕ) → List ℕ
ticks n a = map a (range_with_len 0 n)
