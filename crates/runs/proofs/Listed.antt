-- A list of calls that was worked through is a run.
use Rattle.std.proofs.Common.{◌≡◌, ℕ, ◌+◌, ◌-◌, ◌≤◌, min, List, [], ◌++◌, length, take, drop, Ok, Err, Result, sym, refl, ap, ◌∙◌, subst, append-nil, arith, length-drop, length-set, length-take}
use mathlib.Core.Path.{transport}
use Rattle.std.proofs.lemmas.List.{take-take}
use Rattle.tables.specs.declared.refusal.Refusal.{Refusal}
use Rattle.flows.specs.declared.flow.Flow as flow
use Rattle.stages.specs.declared.stage.Counts.{Counts}
use Rattle.stages.specs.declared.stage.Stage as stage
use Rattle.runs.specs.declared.calls.Call.{Call}
use Rattle.runs.specs.declared.calls.Call.TheVariants.{Tick, Carry}
use Rattle.runs.specs.declared.calls.Done.{Done}
use Rattle.runs.specs.Runs as runs
use Rattle.runs.specs.declared.states.Running.{Running}
use Rattle.runs.specs.Runs.{Lists, State, Went, Ticked, Carried, Runs}
use Rattle.runs.specs.Calls.{Desk, part, past_tick, past_carry, TickDone, Through, none, next}
use Rattle.runs.proofs.Pieces.{part_few}
use Rattle.runs.proofs.Rounds.{two_parts}

-- the first t of a list and then the first a of a part that begins there
first_more : {M : Type 0} (xs : List M) (t n a : ℕ) → a ≤ length (part xs t n) → take t xs ++ take a (part xs t n) ≡ take (t + a) xs
first_more xs t n a l =
    let few : a ≤ n = omega (arith, l, length-take n (drop t xs)) in
    let is : (t + a) - t ≡ a = omega arith in
    ap (λ ys. take t xs ++ ys) (take-take a n (drop t xs) few ∙ ap (λ k. take k (drop t xs)) (sym is)) ∙ two_parts xs t (t + a) (omega arith)

part_as_long : {M : Type 0} (xs ys : List M) (t n : ℕ) → length ys ≡ length xs → length (part xs t n) ≡ length (part ys t n)
part_as_long xs ys t n e = simp (length-take, length-drop) (ap (λ k. min n (k - t)) (sym e))

tick_taken : (a : Result Counts Refusal) (d : Done) → (past_tick a d).taken ≡ d.taken
tick_taken (Ok c) d = refl
tick_taken (Err e) d = refl

tick_given : (a : Result Counts Refusal) (d : Done) → (past_tick a d).given ≡ d.given
tick_given (Ok c) d = refl
tick_given (Err e) d = refl

module _ {X M : Type 0} (F : flow.Ghosts X) (P : stage.Ghosts X) (ins : List M) (d : Desk F P M) where
  pub record Listed (e : Desk F P M) : Type 0 where
    pub run : Runs F P d.state (take e.done.taken ins) (take e.done.given e.outs) e.state
    pub taken : e.done.taken ≤ length ins
    pub given : e.done.given ≤ length e.outs

  none_listed : d.done.taken ≡ 0 → d.done.given ≡ 0 → Listed d
  none_listed zt zg = record {
    run = subst (λ k. Runs F P d.state (take k ins) (take d.done.given d.outs) d.state) (sym zt) (subst (λ k. Runs F P d.state [] (take k d.outs) d.state) (sym zg) runs.none);
    taken = omega (arith, zt);
    given = omega (arith, zg);
  }

  tick_listed : (e f : Desk F P M) → Listed e → TickDone F P ins e f → Listed f
  tick_listed e f h w =
      let tk : e.done.taken ≡ f.done.taken = sym (ap (λ (x : Done). x.taken) w.done ∙ tick_taken w.answer e.done) in
      let gv : e.done.given ≡ f.done.given = sym (ap (λ (x : Done). x.given) w.done ∙ tick_given w.answer e.done) in
      record {
        run =
            transport (λ i. Runs F P d.state (take (tk i) ins) (take (gv i) (sym w.outs i)) (record { run = f.state.run; log = f.state.log; held = sym w.held i; slots = sym w.slots i }))
            (runs.tick f.state.run f.state.log w.answer h.run w.ticked);
        taken = omega (arith, tk, h.taken);
        given = omega (arith, gv, h.given, ap length w.outs);
      }

  carry_listed : (n m : ℕ) (e f : Desk F P M) (a : Result Counts Refusal)
      → Carried F P e.state f.state (part ins e.done.taken n) (part e.outs e.done.given m) (part f.outs e.done.given m) a
      → take e.done.given f.outs ≡ take e.done.given e.outs → length f.outs ≡ length e.outs → f.done ≡ past_carry a e.done → Listed e → Listed f
  carry_listed n m e f (Ok c) w before long done h =
      let few = part_few ins e.done.taken n c.arrived h.taken w.1.in_list in
      let fit = part_few e.outs e.done.given m c.passed h.given w.1.out_list in
      let short : c.passed ≤ length (part f.outs e.done.given m) = omega (arith, w.1.out_list, part_as_long e.outs f.outs e.done.given m long) in
      let i = first_more ins e.done.taken n c.arrived w.1.in_list ∙ ap (λ (x : Done). take x.taken ins) (sym done) in
      let o = ap (λ xs. xs ++ take c.passed (part f.outs e.done.given m)) (sym before) ∙ first_more f.outs e.done.given m c.passed short ∙ ap (λ (x : Done). take x.given f.outs) (sym done) in
      record {
        run =
            transport (λ k. Runs F P d.state (i k) (o k) f.state)
            (runs.carry f.state (part ins e.done.taken n) (part e.outs e.done.given m) (part f.outs e.done.given m) (Ok c) h.run w);
        taken = omega (arith, few, ap (λ (x : Done). x.taken) done);
        given = omega (arith, fit, long, ap (λ (x : Done). x.given) done);
      }
  carry_listed n m e f (Err x) w before long done h =
      let i = append-nil (take e.done.taken ins) ∙ ap (λ (x : Done). take x.taken ins) (sym done) in
      let o = append-nil (take e.done.given e.outs) ∙ sym before ∙ ap (λ (x : Done). take x.given f.outs) (sym done) in
      record {
        run =
            transport (λ k. Runs F P d.state (i k) (o k) f.state)
            (runs.carry f.state (part ins e.done.taken n) (part e.outs e.done.given m) (part f.outs e.done.given m) (Err x) h.run w);
        taken = omega (arith, h.taken, ap (λ (x : Done). x.taken) done);
        given = omega (arith, h.given, long, ap (λ (x : Done). x.given) done);
      }

  pub listed : {cs : List Call} {e : Desk F P M} → d.done.taken ≡ 0 → d.done.given ≡ 0 → Through F P ins d cs e → Listed e
  listed zt zg none = none_listed zt zg
  listed zt zg (next {e = e} Tick f before w) = tick_listed e f (listed zt zg before) w
  listed zt zg (next {e = e} (Carry n m) f before w) = carry_listed n m e f w.answer w.carried w.before w.long w.done (listed zt zg before)

-- the lists of the log keep their lengths
pub record AsLong (l m : Lists) : Type 0 where
  pub arrived : length m.arrived ≡ length l.arrived
  pub passed : length m.passed ≡ length l.passed
  pub waiting : length m.waiting ≡ length l.waiting

same_long : (l m : Lists) → m ≡ l → AsLong l m
same_long l m e = record { arrived = ap (λ (x : Lists). length x.arrived) e; passed = ap (λ (x : Lists). length x.passed) e; waiting = ap (λ (x : Lists). length x.waiting) e }

on_long : (k l m : Lists) → AsLong k l → AsLong l m → AsLong k m
on_long k l m g h = record { arrived = h.arrived ∙ g.arrived; passed = h.passed ∙ g.passed; waiting = h.waiting ∙ g.waiting }

module _ {X : Type 0} (F : flow.Ghosts X) (P : stage.Ghosts X) where
  went_long : (r : Running X P F) (l : Lists) (s : Running X P F) (m : Lists) (c : Counts) → Went F P r l s m c → AsLong l m
  went_long r l s m c w = record {
    arrived = ap length w.log_arrived ∙ length-set l.arrived r.ticks c.arrived;
    passed = ap length w.log_passed ∙ length-set l.passed r.ticks c.passed;
    waiting = ap length w.log_waiting ∙ length-set l.waiting r.ticks c.waiting;
  }

  ticked_long : (r : Running X P F) (l : Lists) (s : Running X P F) (m : Lists) (a : Result Counts Refusal) → Ticked F P r l s m a → AsLong l m
  ticked_long r l s m (Ok c) w = went_long r l s m c w.1
  ticked_long r l s m (Err e) w = same_long l m w.1.log

  carried_long : {M : Type 0} (s t : State F P M) (ins outs after : List M) (a : Result Counts Refusal) → Carried F P s t ins outs after a → AsLong s.log t.log
  carried_long s t ins outs after (Ok c) w = went_long s.run s.log t.run t.log c w.1.went
  carried_long {M} s t ins outs after (Err e) w = same_long s.log t.log (ap (λ (x : State F P M). x.log) w.1.state)

  pub as_long : {M : Type 0} (ins : List M) (d : Desk F P M) {cs : List Call} {e : Desk F P M} → Through F P ins d cs e → AsLong d.state.log e.state.log
  as_long ins d none = same_long d.state.log d.state.log refl
  as_long ins d (next {e = e} Tick f before w) = on_long d.state.log e.state.log f.state.log (as_long ins d before) (ticked_long e.state.run e.state.log f.state.run f.state.log w.answer w.ticked)
  as_long ins d (next {e = e} (Carry n m) f before w) = on_long d.state.log e.state.log f.state.log (as_long ins d before) (carried_long e.state f.state _ _ _ w.answer w.carried)
