-- Lists of calls, worked through one after the other from one in-list to one out-list.
use Rattle.std.specs.Prelude.{◌≡◌, ℕ, ◌+◌, List, [], ◌∷◌, ◌++◌, length, take, drop, Ok, Err, Result}
use Rattle.tables.specs.declared.refusal.Refusal.{Refusal}
use Rattle.flows.specs.declared.flow.Flow as flow
use Rattle.stages.specs.declared.stage.Counts.{Counts}
use Rattle.stages.specs.declared.stage.Stage as stage
use Rattle.runs.specs.declared.calls.Call.{Call}
use Rattle.runs.specs.declared.calls.Call.TheVariants.{Tick, Carry}
use Rattle.runs.specs.declared.calls.Done.{Done}
use Rattle.runs.specs.declared.log.Log.{Log}
use Rattle.runs.specs.declared.slots.Ring.{Ring}
use Rattle.runs.specs.declared.states.Running.{Running}
use Rattle.runs.specs.Runs.{State, cabinet, Ticked, Carried}

-- a cabinet at one time, its out-list, and how far the lists are used
pub record Desk {X : Type 0} (F : flow.Ghosts X) (P : stage.Ghosts X) (M : Type 0) : Type 0 where
  pub state : State F P M
  pub outs : List M
  pub done : Done

abbrev pub desk : {X M : Type 0} {F : flow.Ghosts X} {P : stage.Ghosts X} → Running X P F → Log → Ring M → List M → Done → Desk F P M
desk r l g outs d = record { state = cabinet r l g; outs = outs; done = d }

-- n of a list from a place on, or all that are left
abbrev pub part : {M : Type 0} → List M → ℕ → ℕ → List M
part xs from n = take n (drop from xs)

-- how far they are used at the start
abbrev pub nothing : Done
nothing = record { taken = 0; given = 0; refused = 0 }

-- how far the lists are used once a tick, and once a carry, has answered
abbrev pub past_tick : Result Counts Refusal → Done → Done
past_tick (Ok c) d = d
past_tick (Err e) d = record { taken = d.taken; given = d.given; refused = d.refused + 1 }

abbrev pub past_carry : Result Counts Refusal → Done → Done
past_carry (Ok c) d = record { taken = d.taken + c.arrived; given = d.given + c.passed; refused = d.refused }
past_carry (Err e) d = record { taken = d.taken; given = d.given; refused = d.refused + 1 }

module _ {X : Type 0} (F : flow.Ghosts X) (P : stage.Ghosts X) {M : Type 0} (ins : List M) where
  -- a tick of the list: the ring and the out-list are as they were
  pub record TickDone (d e : Desk F P M) : Type 0 where
    pub answer : Result Counts Refusal
    pub ticked : Ticked F P d.state.run d.state.log e.state.run e.state.log answer
    pub held : e.state.held ≡ d.state.held
    pub slots : e.state.slots ≡ d.state.slots
    pub outs : e.outs ≡ d.outs
    pub done : e.done ≡ past_tick answer d.done

  -- a carry of the list, from the next n of the in-list to the next m places of the out-list; the other places are as they were
  pub record CarryDone (n m : ℕ) (d e : Desk F P M) : Type 0 where
    pub answer : Result Counts Refusal
    pub carried : Carried F P d.state e.state (part ins d.done.taken n) (part d.outs d.done.given m) (part e.outs d.done.given m) answer
    pub before : take d.done.given e.outs ≡ take d.done.given d.outs
    pub behind : drop (d.done.given + m) e.outs ≡ drop (d.done.given + m) d.outs
    pub long : length e.outs ≡ length d.outs
    pub done : e.done ≡ past_carry answer d.done

  abbrev pub Called : Call → Desk F P M → Desk F P M → Type 0
  Called Tick d e = TickDone d e
  Called (Carry n m) d e = CarryDone n m d e

  -- from d, call after call
  pub data Through (d : Desk F P M) : List Call → Desk F P M → Type 0 where
    none : Through d [] d
    next : {cs : List Call} {e : Desk F P M} (c : Call) (f : Desk F P M) → Through d cs e → Called c e f → Through d (cs ++ c ∷ []) f
