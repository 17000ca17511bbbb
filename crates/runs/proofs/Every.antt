-- Every run from power-on keeps what is promised.
use Rattle.std.proofs.Common.{◌≡◌, ℕ, zero, suc, ◌+◌, ◌*◌, ◌<◌, ◌≤◌, max, ◌≢◌, List, [], ◌∷◌, ◌++◌, map, length, get_or, take, set, IfSome, Some, None, Ok, Err, Option, Result, sym, refl, ap, ◌∙◌, subst, append_assoc, append-nil, arith, length-set, get_or-set_other, get_or-set_same, below_more}
use native.Mathlib.Bridge.{le_prop}
use Rattle.tables.specs.Courses.{sum}
use Rattle.tables.specs.Ranges.{largest}
use Rattle.tables.specs.Tables.{at}
use Rattle.tables.specs.declared.pair.Pair.{Pair}
use Rattle.courses.specs.Courses.{KeepsTo}
use Rattle.flows.specs.Views.{View, Fine, Idle, All, KeepsPair, next_view}
use Rattle.flows.specs.declared.flow.Flow as flow
use Rattle.stages.specs.declared.stage.Counts.{Counts}
use Rattle.stages.specs.declared.stage.Stage as stage
use Rattle.runs.specs.declared.states.Running.{Running}
use Rattle.runs.specs.Runs.{Lists, on, KeptTo, Written, State, started, Went, Ticked, Carried, taken, given, Runs, none, tick, carry, Kept, EveryRun}

-- a stage that keeps its bounds for ever, and in which nothing waits, keeps them in the first n ticks
pub kept_to : (n : ℕ) (v : View) → Fine v → Idle v → KeptTo n v
kept_to n v F z = record {
  account = λ k _. all k;
  within = λ k _. F.within k;
  windows = F.keeps.to n;
  rests = rests v.bounds.rest F.rests;
  out = λ k _. omega (arith, F.out k, z);
}
  where
    all : (k : ℕ) → sum v.passed k + v.waits k ≡ sum v.arrived k
    all zero = omega (arith, z)
    all (suc k) = omega (arith, all k, F.account k)

    rests : (o : Option Pair) → IfSome o (λ p. KeepsPair p v.rest) → IfSome o (λ p. KeepsTo n (at p.most) (at p.least) v.rest)
    rests None h = tt
    rests (Some p) h = h.to n

all_kept : (n : ℕ) (vs : List View) → All Fine vs → All Idle vs → All (KeptTo n) vs
all_kept n [] h z = tt
all_kept n (v ∷ vs) h z = (kept_to n v h.0 z.0, all_kept n vs h.1 z.1)

-- a run that has come to nothing yet is the run at power-on
pub at_start : {X : Type 0} (F : flow.Ghosts X) (P : stage.Ghosts X) (x : X) (f g : 0 ≤ 0 * 4294967295) → ◌≡◌ {A = Running X P F} (record { network = x; ticks = 0; arrived = 0; passed = 0; greatest = 0; few = f; least = g }) (started x)
at_start F P x f g = λ i. record { network = x; ticks = 0; arrived = 0; passed = 0; greatest = 0; few = le_prop f (started {F = F} {P = P} x).few i; least = le_prop g (started {F = F} {P = P} x).least i }

-- views some ticks on
none_more : (t : ℕ) → t ≡ 0 + t
none_more t = omega arith

one_more : (k t : ℕ) → k + suc t ≡ (k + 1) + t
one_more k t = omega arith

on_none : (v : View) → v ≡ on 0 v
on_none v = λ i. record {
  arrived = λ t. v.arrived (none_more t i);
  passed = λ t. v.passed (none_more t i);
  rest = λ t. v.rest (none_more t i);
  waits = λ t. v.waits (none_more t i);
  arriving = v.arriving;
  bounds = v.bounds;
}

on_next : (k : ℕ) (v : View) → next_view (on k v) ≡ on (k + 1) v
on_next k v = λ i. record {
  arrived = λ t. v.arrived (one_more k t i);
  passed = λ t. v.passed (one_more k t i);
  rest = λ t. v.rest (one_more k t i);
  waits = λ t. v.waits (one_more k t i);
  arriving = v.arriving;
  bounds = v.bounds;
}

each_none : (vs : List View) → vs ≡ map (on 0) vs
each_none [] = refl
each_none (v ∷ vs) = λ i. on_none v i ∷ each_none vs i

each_next : (k : ℕ) (vs : List View) → map next_view (map (on k) vs) ≡ map (on (k + 1)) vs
each_next k [] = refl
each_next k (v ∷ vs) = λ i. on_next k v i ∷ each_next k vs i

-- one place more of a list
written_none : (f : ℕ → ℕ) (xs : List ℕ) → Written 0 f xs xs
written_none f xs = record { long = refl; each = λ k h. absurd (omega arith); others = λ k _. refl }

written_more : (n : ℕ) (f : ℕ → ℕ) (old xs ys : List ℕ) (c : ℕ) → Written n f old xs → n < length xs → c ≡ f n → ys ≡ set xs n c → Written (n + 1) f old ys
written_more n f old xs ys c w room is new =
    subst (Written (n + 1) f old) (sym new)
    (record {
      long = length-set xs n c ∙ w.long;
      each = below_more (λ k. get_or (set xs n c) k 0 ≡ f k) n (λ k h. let ne : k ≢ n = omega arith in rw get_or-set_other (w.each k h)) (rw get_or-set_same is);
      others = λ k h. let ne : k ≢ n = omega arith in rw get_or-set_other (w.others k (omega arith));
    })

module _ {X : Type 0} (F : flow.Ghosts X) (P : stage.Ghosts X) where
  -- what a run and its log have come to, from r and l
  pub record Come (r : Running X P F) (l : Lists) (s : Running X P F) (m : Lists) : Type 0 where
    views : F.views s.network ≡ map (on s.ticks) (F.views r.network)
    top : P.top s.network ≡ on s.ticks (P.top r.network)
    arrived : Written s.ticks (P.top r.network).arrived l.arrived m.arrived
    passed : Written s.ticks (P.top r.network).passed l.passed m.passed
    waiting : Written s.ticks (λ k. (P.top r.network).waits (k + 1)) l.waiting m.waiting
    all_arrived : s.arrived ≡ sum (P.top r.network).arrived s.ticks
    all_passed : s.passed ≡ sum (P.top r.network).passed s.ticks
    greatest : s.greatest ≡ largest s.ticks (P.top r.network).waits

  come_none : (r : Running X P F) (l : Lists) → r.ticks ≡ 0 → r.arrived ≡ 0 → r.passed ≡ 0 → r.greatest ≡ 0 → Idle (P.top r.network) → Come r l r l
  unfolding largest
  come_none r l zt za zp zg idle =
      let v = P.top r.network in
      record {
        views = each_none (F.views r.network) ∙ ap (λ k. map (on k) (F.views r.network)) (sym zt);
        top = on_none v ∙ ap (λ k. on k v) (sym zt);
        arrived = subst (λ k. Written k v.arrived l.arrived l.arrived) (sym zt) (written_none v.arrived l.arrived);
        passed = subst (λ k. Written k v.passed l.passed l.passed) (sym zt) (written_none v.passed l.passed);
        waiting = subst (λ k. Written k (λ j. v.waits (j + 1)) l.waiting l.waiting) (sym zt) (written_none (λ j. v.waits (j + 1)) l.waiting);
        all_arrived = za ∙ ap (sum v.arrived) (sym zt);
        all_passed = zp ∙ ap (sum v.passed) (sym zt);
        greatest = zg ∙ sym idle ∙ ap (λ k. largest k v.waits) (sym zt);
      }

  come_more : (r : Running X P F) (l : Lists) (s : Running X P F) (m : Lists) (t : Running X P F) (n : Lists) (c : Counts) → Come r l s m → Went F P s m t n c → Come r l t n
  unfolding largest
  come_more r l s m t n c h w =
      let v = P.top r.network in
      let k = s.ticks in
      let one : k + 1 ≡ suc k = omega arith in
      let zero-on : k + 0 ≡ k = omega arith in
      let ca : c.arrived ≡ v.arrived k = w.arrived ∙ ap (λ (u : View). u.arrived 0) h.top ∙ ap v.arrived zero-on in
      let cp : c.passed ≡ v.passed k = w.passed ∙ ap (λ (u : View). u.passed 0) h.top ∙ ap v.passed zero-on in
      let cw : c.waiting ≡ v.waits (k + 1) = w.waiting ∙ ap (λ (u : View). u.waits 1) h.top in
      record {
        views = w.views ∙ ap (map next_view) h.views ∙ each_next k (F.views r.network) ∙ ap (λ j. map (on j) (F.views r.network)) (sym w.ticks);
        top = w.top ∙ ap next_view h.top ∙ on_next k v ∙ ap (λ j. on j v) (sym w.ticks);
        arrived = subst (λ j. Written j v.arrived l.arrived n.arrived) (sym w.ticks) (written_more k v.arrived l.arrived m.arrived n.arrived c.arrived h.arrived (omega (arith, w.room)) ca w.log_arrived);
        passed = subst (λ j. Written j v.passed l.passed n.passed) (sym w.ticks) (written_more k v.passed l.passed m.passed n.passed c.passed h.passed (omega (arith, w.room)) cp w.log_passed);
        waiting = subst (λ j. Written j (λ i. v.waits (i + 1)) l.waiting n.waiting) (sym w.ticks) (written_more k (λ i. v.waits (i + 1)) l.waiting m.waiting n.waiting c.waiting h.waiting (omega (arith, w.room)) cw w.log_waiting);
        all_arrived = w.all_arrived ∙ (λ i. h.all_arrived i + ca i) ∙ ap (sum v.arrived) (sym (w.ticks ∙ one));
        all_passed = w.all_passed ∙ (λ i. h.all_passed i + cp i) ∙ ap (sum v.passed) (sym (w.ticks ∙ one));
        greatest = w.greatest ∙ (λ i. max (h.greatest i) ((cw ∙ ap v.waits one) i)) ∙ ap (λ j. largest j v.waits) (sym (w.ticks ∙ one));
      }

  come_ticked : (r : Running X P F) (l : Lists) (s : Running X P F) (m : Lists) (t : Running X P F) (n : Lists) (a : Result Counts _) → Come r l s m → Ticked F P s m t n a → Come r l t n
  come_ticked r l s m t n (Ok c) h w = come_more r l s m t n c h w.1
  come_ticked r l s m t n (Err e) h w = subst (Come r l t) (sym w.1.log) (subst (λ x. Come r l x m) (sym w.1.run) h)

  module _ {M : Type 0} (s : State F P M) (start : Come s.run s.log s.run s.log) (empty : s.held ≡ []) where
    -- what holds after each call
    record After (i o : List M) (t : State F P M) : Type 0 where
      come : Come s.run s.log t.run t.log
      order : i ≡ o ++ t.held
      slots : t.slots ≡ s.slots

    after_carry : (i o : List M) (t u : State F P M) (ins outs after : List M) (a : Result Counts _) → After i o t → Carried F P t u ins outs after a → After (i ++ taken F P a ins) (o ++ given F P a after) u
    after_carry i o t u ins outs after (Ok c) h w = record {
      come = come_more s.run s.log t.run t.log u.run u.log c h.come w.1.went;
      order =
          ap (λ x. x ++ take c.arrived ins) h.order ∙ append_assoc o t.held (take c.arrived ins)
          ∙ ap (λ x. o ++ x) w.1.order ∙ sym (append_assoc o (take c.passed after) u.held);
      slots = w.1.slots ∙ h.slots;
    }
    after_carry i o t u ins outs after (Err e) h w =
        subst (λ x. After (i ++ []) (o ++ []) x) (sym w.1.state)
        (record { come = h.come; order = append-nil i ∙ h.order ∙ ap (λ x. x ++ t.held) (sym (append-nil o)); slots = h.slots })

    after : {i o : List M} {t : State F P M} → Runs F P s i o t → After i o t
    after none = record { come = start; order = sym empty; slots = refl }
    after (tick {t = t} r l a before w) =
        let h = after before in
        record { come = come_ticked s.run s.log t.run t.log r l a h.come w; order = h.order; slots = h.slots }
    after (carry {i = i} {o = o} {t = t} u ins outs out a before w) = after_carry i o t u ins outs out a (after before) w

    pub kept : All Fine (F.views s.run.network) → All Idle (F.views s.run.network) → (i o : List M) (t : State F P M) → Runs F P s i o t → Kept F P s i o t
    kept fine idle i o t runs =
        let h = after runs in
        record {
          stages = all_kept t.run.ticks (F.views s.run.network) fine idle;
          views = h.come.views;
          top = h.come.top;
          order = h.order;
          slots = h.slots;
          arrived = h.come.arrived;
          passed = h.come.passed;
          waiting = h.come.waiting;
          all_arrived = h.come.all_arrived;
          all_passed = h.come.all_passed;
          greatest = h.come.greatest;
        }

  pub every : {M : Type 0} (r : Running X P F) (held : List M) → r.ticks ≡ 0 → r.arrived ≡ 0 → r.passed ≡ 0 → r.greatest ≡ 0 → Idle (P.top r.network)
      → All Fine (F.views r.network) → All Idle (F.views r.network) → held ≡ [] → EveryRun F P r held
  every r held zt za zp zg idle fine all empty l n =
      kept (record { run = r; log = l; held = held; slots = n }) (come_none r l zt za zp zg idle) empty fine all
