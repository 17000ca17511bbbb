-- The stages of a network, as their bounds speak of them.
use Rattle.std.specs.Prelude.{◌≡◌, ℕ, zero, suc, ◌+◌, ◌≤◌, List, [], ◌∷◌, IfSome, Ok, Err, Result}
use Rattle.std.specs.Coded.{×_prop, Unit-prop}
use Rattle.std.proofs.Props.{props}
use Rattle.tables.specs.Courses.{sum}
use Rattle.tables.specs.Tables.{at}
use Rattle.tables.specs.declared.pair.Pair.{Pair}
use Rattle.courses.specs.Courses.{Keeps}
use Rattle.flows.specs.declared.bounds.StageBounds.{StageBounds}

-- any k neighbours of the course add up to no more than the repeated most at k and no less than the repeated least
abbrev pub KeepsPair : Pair → (ℕ → ℕ) → Type 0
KeepsPair p a = Keeps (at p.most) (at p.least) a

-- the course after one tick
abbrev pub tail : {X : Type 0} → (ℕ → X) → ℕ → X
tail a t = a (suc t)

-- a stage from now on: what arrives, passes and is left of the service in each coming tick, what waits after each number of ticks, the most that arrives in a tick, and the bounds that are printed
pub record View : Type 0 where
  pub arrived : ℕ → ℕ
  pub passed : ℕ → ℕ
  pub rest : ℕ → ℕ
  pub waits : ℕ → ℕ
  pub arriving : ℕ
  pub bounds : StageBounds

-- the stage keeps its bounds for ever
pub record Fine (v : View) : Type 0 where
  pub account : (t : ℕ) → v.waits (suc t) + v.passed t ≡ v.waits t + v.arrived t
  pub few : (t : ℕ) → v.arrived t ≤ v.arriving
  pub within : (t : ℕ) → v.waits t ≤ v.bounds.wait
  pub keeps : KeepsPair v.bounds.pair v.passed
  pub rests : IfSome v.bounds.rest (λ p. KeepsPair p v.rest)
  pub out : (t : ℕ) → v.waits 0 + sum v.arrived t ≤ sum v.passed (t + v.bounds.delay)

-- nothing waits in it
abbrev pub Idle : View → Type 0
Idle v = v.waits 0 ≡ 0

-- the same stage one tick later
abbrev pub next_view : View → View
next_view v = record {
  arrived = tail v.arrived;
  passed = tail v.passed;
  rest = tail v.rest;
  waits = tail v.waits;
  arriving = v.arriving;
  bounds = v.bounds;
}

abbrev pub All : {X : Type 0} → (X → Type 0) → List X → Type 0
All P [] = Unit {0}
All P (x ∷ xs) = P x × All P xs

-- a fact has one proof: so a type may keep it
pub fine_prop : (v : View) → IsProp (Fine v)
fine_prop v = hlevel props

pub all_fine_prop : (vs : List View) → IsProp (All Fine vs)
all_fine_prop [] = Unit-prop
all_fine_prop (v ∷ vs) = ×_prop (fine_prop v) (all_fine_prop vs)

pub all_idle_prop : (vs : List View) → IsProp (All Idle vs)
all_idle_prop [] = Unit-prop
all_idle_prop (v ∷ vs) = ×_prop (hlevel props) (all_idle_prop vs)

-- the bounds of the stage at place i, or how far i lies past the last
abbrev pub look : List View → ℕ → Result StageBounds ℕ
look [] i = Err i
look (v ∷ vs) zero = Ok v.bounds
look (v ∷ vs) (suc i) = look vs i
