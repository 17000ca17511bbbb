-- What the calls of a running network do, and what holds over every run.
use Rattle.std.specs.Prelude.{◌≡◌, ℕ, ◌+◌, ◌<◌, ◌≤◌, min, max, cond, ◌||◌, List, [], ◌++◌, map, length, take, drop, IfSome, Some, None, Ok, Err, Option, Result, ◌==◌, nat_lt, slice_index, slice_set}
use Rattle.std.proofs.Math.Dec.{lit≤}
use Rattle.tables.specs.Courses.{sum}
use Rattle.tables.specs.Ranges.{largest}
use Rattle.tables.specs.Tables.{at}
use Rattle.tables.specs.declared.refusal.Refusal.{Refusal}
use Rattle.tables.specs.declared.refusal.Refusal.TheVariants.{Log as LogFull, List as ListShort, Ring as RingSmall, Step as StepMissed}
use Rattle.courses.specs.Courses.{KeepsTo}
use Rattle.flows.specs.Views.{View, All, next_view}
use Rattle.flows.specs.declared.flow.Flow as flow
use Rattle.stages.specs.declared.stage.Counts.{Counts}
use Rattle.stages.specs.declared.stage.Stage as stage
use Rattle.runs.specs.Held.{holds, room as slots_of}
use Rattle.runs.specs.declared.log.Log.{Log}
use Rattle.runs.specs.declared.slots.Ring.{Ring}
use Rattle.runs.specs.declared.states.Running.{Running}
use Rattle.runs.specs.declared.states.Sums.{Sums}

-- the three lists of a log
pub record Lists : Type 0 where
  pub arrived : List ℕ
  pub passed : List ℕ
  pub waiting : List ℕ

abbrev pub lists : Log → Lists
lists l = record { arrived = l.arrived.now; passed = l.passed.now; waiting = l.waiting.now }

-- how many ticks a log has places for, and no more than there may be
abbrev pub places : Lists → ℕ
places l = min (min (length l.arrived) (min (length l.passed) (length l.waiting))) 4294967295

-- a view k ticks on
abbrev pub on : ℕ → View → View
on k v = record {
  arrived = λ t. v.arrived (k + t);
  passed = λ t. v.passed (k + t);
  rest = λ t. v.rest (k + t);
  waits = λ t. v.waits (k + t);
  arriving = v.arriving;
  bounds = v.bounds;
}

-- in the first n ticks, all that arrived has passed or waits; what waits is within the wait; each window keeps least and most, a server's rest too; and all that arrived is out within the delay
pub record KeptTo (n : ℕ) (v : View) : Type 0 where
  pub account : (k : ℕ) → k ≤ n → sum v.passed k + v.waits k ≡ sum v.arrived k
  pub within : (k : ℕ) → k ≤ n → v.waits k ≤ v.bounds.wait
  pub windows : KeepsTo n (at v.bounds.pair.most) (at v.bounds.pair.least) v.passed
  pub rests : IfSome v.bounds.rest (λ p. KeepsTo n (at p.most) (at p.least) v.rest)
  pub out : (k : ℕ) → k + v.bounds.delay ≤ n → sum v.arrived k ≤ sum v.passed (k + v.bounds.delay)

-- the first n places of a list were written with the counts of f, and no other
pub record Written (n : ℕ) (f : ℕ → ℕ) (old new : List ℕ) : Type 0 where
  pub long : length new ≡ length old
  pub each : (k : ℕ) → k < n → slice_index new k ≡ f k
  pub others : (k : ℕ) → n ≤ k → slice_index new k ≡ slice_index old k

-- a cabinet at one time: its run, its log, what its ring holds, and how many slots the ring has
pub record State {X : Type 0} (F : flow.Ghosts X) (P : stage.Ghosts X) (M : Type 0) : Type 0 where
  pub run : Running X P F
  pub log : Lists
  pub held : List M
  pub slots : ℕ

abbrev pub cabinet : {X M : Type 0} {F : flow.Ghosts X} {P : stage.Ghosts X} → Running X P F → Log → Ring M → State F P M
cabinet r l g = record { run = r; log = lists l; held = holds g; slots = slots_of g }

-- a run at power-on
abbrev pub started : {X : Type 0} {F : flow.Ghosts X} {P : stage.Ghosts X} → X → Running X P F
started x = record { network = x; ticks = 0; arrived = 0; passed = 0; greatest = 0; few = lit≤ tt; least = lit≤ tt }

module _ {X : Type 0} (F : flow.Ghosts X) (P : stage.Ghosts X) where
  -- what a run has come to
  abbrev pub totals : Running X P F → Sums
  totals r = record { ticks = r.ticks; arrived = r.arrived; passed = r.passed; waiting = (P.top r.network).waits 0; greatest = r.greatest }

  -- why a tick is refused
  abbrev pub refusal_of_tick : Running X P F → Lists → Option Refusal
  refusal_of_tick r l = cond (nat_lt r.ticks (places l)) None (Some LogFull)

  -- a tick that was taken
  pub record Went (r : Running X P F) (l : Lists) (s : Running X P F) (m : Lists) (c : Counts) : Type 0 where
    pub room : r.ticks < places l
    pub arrived : c.arrived ≡ (P.top r.network).arrived 0
    pub passed : c.passed ≡ (P.top r.network).passed 0
    pub waiting : c.waiting ≡ (P.top r.network).waits 1
    pub ticks : s.ticks ≡ r.ticks + 1
    pub all_arrived : s.arrived ≡ r.arrived + c.arrived
    pub all_passed : s.passed ≡ r.passed + c.passed
    pub greatest : s.greatest ≡ max r.greatest c.waiting
    pub log_arrived : m.arrived ≡ slice_set l.arrived r.ticks c.arrived
    pub log_passed : m.passed ≡ slice_set l.passed r.ticks c.passed
    pub log_waiting : m.waiting ≡ slice_set l.waiting r.ticks c.waiting
    pub top : P.top s.network ≡ next_view (P.top r.network)
    pub views : F.views s.network ≡ map next_view (F.views r.network)

  -- a call that was refused changed nothing
  pub record Stayed (r : Running X P F) (l : Lists) (s : Running X P F) (m : Lists) : Type 0 where
    pub run : s ≡ r
    pub log : m ≡ l

  abbrev pub Ticked : Running X P F → Lists → Running X P F → Lists → Result Counts Refusal → Type 0
  Ticked r l s m (Ok c) = (refusal_of_tick r l ≡ None) × Went r l s m c
  Ticked r l s m (Err e) = (refusal_of_tick r l ≡ Some e) × Stayed r l s m

  module _ {M : Type 0} where
    -- why a carry is refused: the log is used up, a list is too short, the ring has too few slots, or it holds another number than waits
    abbrev pub refusal_of_carry : State F P M → List M → List M → Option Refusal
    refusal_of_carry s ins outs =
        cond (nat_lt s.run.ticks (places s.log))
        (cond (nat_lt (length ins) (P.top s.run.network).arriving || nat_lt (length outs) (at (P.top s.run.network).bounds.pair.most 1)) (Some ListShort)
        (cond (nat_lt s.slots (P.top s.run.network).bounds.wait) (Some RingSmall)
        (cond (length s.held == (P.top s.run.network).waits 0) None (Some StepMissed))))
        (Some LogFull)

    -- a carry that was taken: what the ring held and then the first of the in-list came out first, and the remainder is in the ring; the other places of the out-list are as they were
    pub record Moved (s t : State F P M) (ins outs after : List M) (c : Counts) : Type 0 where
      pub went : Went s.run s.log t.run t.log c
      pub in_list : c.arrived ≤ length ins
      pub out_list : c.passed ≤ length outs
      pub order : s.held ++ take c.arrived ins ≡ take c.passed after ++ t.held
      pub others : drop c.passed after ≡ drop c.passed outs
      pub slots : t.slots ≡ s.slots

    -- one that was refused
    pub record Unmoved (s t : State F P M) (outs after : List M) : Type 0 where
      pub state : t ≡ s
      pub out_list : after ≡ outs

    abbrev pub Carried : State F P M → State F P M → List M → List M → List M → Result Counts Refusal → Type 0
    Carried s t ins outs after (Ok c) = (refusal_of_carry s ins outs ≡ None) × Moved s t ins outs after c
    Carried s t ins outs after (Err e) = (refusal_of_carry s ins outs ≡ Some e) × Unmoved s t outs after

    -- what a carry took in and what it gave out
    abbrev pub taken : Result Counts Refusal → List M → List M
    taken (Ok c) ins = take c.arrived ins
    taken (Err e) ins = []

    abbrev pub given : Result Counts Refusal → List M → List M
    given (Ok c) after = take c.passed after
    given (Err e) after = []

    -- the runs from a state: ticks and carries, refused or not, one after the other, with all that went in and all that came out
    pub data Runs (s : State F P M) : List M → List M → State F P M → Type 0 where
      none : Runs s [] [] s
      tick : {i o : List M} {t : State F P M} (r : Running X P F) (l : Lists) (a : Result Counts Refusal) → Runs s i o t → Ticked t.run t.log r l a
          → Runs s i o (record { run = r; log = l; held = t.held; slots = t.slots })
      carry : {i o : List M} {t : State F P M} (u : State F P M) (ins outs after : List M) (a : Result Counts Refusal) → Runs s i o t → Carried t u ins outs after a
          → Runs s (i ++ taken a ins) (o ++ given a after) u

    -- at the end of a run that went from s to t: in the ticks taken each stage kept its bounds; what came out and then the ring is what went in, in order; and the log and the sums are what happened at the top stage
    pub record Kept (s : State F P M) (i o : List M) (t : State F P M) : Type 0 where
      pub stages : All (KeptTo t.run.ticks) (F.views s.run.network)
      pub views : F.views t.run.network ≡ map (on t.run.ticks) (F.views s.run.network)
      pub top : P.top t.run.network ≡ on t.run.ticks (P.top s.run.network)
      pub order : i ≡ o ++ t.held
      pub slots : t.slots ≡ s.slots
      pub arrived : Written t.run.ticks (P.top s.run.network).arrived s.log.arrived t.log.arrived
      pub passed : Written t.run.ticks (P.top s.run.network).passed s.log.passed t.log.passed
      pub waiting : Written t.run.ticks (λ k. (P.top s.run.network).waits (k + 1)) s.log.waiting t.log.waiting
      pub all_arrived : t.run.arrived ≡ sum (P.top s.run.network).arrived t.run.ticks
      pub all_passed : t.run.passed ≡ sum (P.top s.run.network).passed t.run.ticks
      pub greatest : t.run.greatest ≡ largest t.run.ticks (P.top s.run.network).waits

    -- over every run from power-on, with every log and every number of slots
    abbrev pub EveryRun : Running X P F → List M → Type 0
    EveryRun r held = (l : Lists) (n : ℕ) (i o : List M) (t : State F P M) → Runs (record { run = r; log = l; held = held; slots = n }) i o t → Kept (record { run = r; log = l; held = held; slots = n }) i o t
