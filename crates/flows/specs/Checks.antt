-- What a bottom flow is where its input is turned down: closed. It then hands over nothing for ever.
use Rattle.std.specs.Prelude.{ℕ, cond, List, Ok, Err, Result}
use Rattle.tables.specs.Bottoms.{kept_by}
use Rattle.tables.specs.Refusals.{number_of}
use Rattle.tables.specs.Tables.{Curve, Curves, paired, capped}
use Rattle.tables.specs.declared.refusal.Refusal.{Refusal}
use Rattle.tables.specs.declared.refusal.Refusal.TheVariants.{Promise}

-- the number of the refusal, 0 where there is none
abbrev pub number_given : {X : Type 0} → Result X Refusal → ℕ
number_given (Ok _) = 0
number_given (Err e) = number_of e

-- an answer without what it holds: accepted, or the refusal
abbrev pub verdict : {X : Type 0} → Result X Refusal → Result (Unit {0}) Refusal
verdict (Ok _) = Ok tt
verdict (Err e) = Err e

-- the pair of an answer: that of the closed flow where it is a refusal
abbrev pub or_closed : Result Curves Refusal → Curves
or_closed (Ok c) = c
or_closed (Err _) = paired 1 (λ _. 0) (λ _. 0)

-- the course a where the answer is a pair, nothing for ever where it is a refusal
abbrev pub or_nothing : Result Curves Refusal → (ℕ → ℕ) → ℕ → ℕ
or_nothing (Ok _) a = a
or_nothing (Err _) a = λ _. 0

-- the pair of the recorded list xs under the most table t
abbrev pub recorded_answer : Curve → List ℕ → Result Curves Refusal
recorded_answer t xs = cond (kept_by t.frame t.count xs) (Ok (capped t)) (Err Promise)
