-- What is open, and what is closed: a closed stage hands over nothing, draws nothing and stands alone.
use Rattle.std.specs.Prelude.{ℕ, Bool, true, false, List, [], Some, None, Ok, Err, Option, Result}
use Rattle.tables.specs.declared.refusal.Refusal.{Refusal}
use Rattle.flows.specs.Views.{View}

abbrev pub open_course : Bool → (ℕ → ℕ) → ℕ → ℕ
open_course true a = a
open_course false a = λ _. 0

abbrev pub open_count : Bool → ℕ → ℕ
open_count true n = n
open_count false n = 0

-- the stages below
abbrev pub open_views : Bool → List View → List View
open_views true vs = vs
open_views false vs = []

-- n where the answer is no refusal
abbrev pub where_open : {X : Type 0} → Result X Refusal → ℕ → Option ℕ
where_open (Ok _) n = Some n
where_open (Err _) n = None
