-- The top stage of a network keeps its bounds, and what a carry that is not refused can rely on.
use Rattle.std.proofs.Common.{◌≡◌, ℕ, ◌<◌, ◌≤◌, Bool, true, false, cond, ◌||◌, eqb, ltb, List, ◌∷◌, length, Some, None, refl, subst, arith}
use Rattle.std.proofs.lemmas.Bool.{ltb-true, ltb-false, eqb-true, or_parts}
use Rattle.tables.specs.Tables.{at}
use Rattle.tables.specs.declared.refusal.Refusal.{Refusal}
use Rattle.flows.specs.Views.{View, Fine, All}
use Rattle.flows.specs.declared.flow.Flow as flow
use Rattle.stages.specs.declared.stage.Stage as stage
use Rattle.runs.specs.Runs.{State, places, refusal_of_carry}

pub top_fine : (views below : List View) (top : View) → views ≡ top ∷ below → All Fine views → Fine top
top_fine views below top is all = (subst (All Fine) is all).0

-- four tests, of which none refuses
pub record Passed (full short small missed : Bool) : Type 0 where
  pub place : full ≡ true
  pub long : short ≡ false
  pub large : small ≡ false
  pub same : missed ≡ true

none_refuses : (a b c d : Refusal) (full short small missed : Bool) → cond full (cond short (Some b) (cond small (Some c) (cond missed None (Some d)))) (Some a) ≡ None → Passed full short small missed
none_refuses a b c d true false false true h = record { place = refl; long = refl; large = refl; same = refl }
none_refuses a b c d true false false false h = let z : ◌≡◌ {A = ℕ} 0 1 = cc in absurd (omega arith)
none_refuses a b c d true false true missed h = let z : ◌≡◌ {A = ℕ} 0 1 = cc in absurd (omega arith)
none_refuses a b c d true true small missed h = let z : ◌≡◌ {A = ℕ} 0 1 = cc in absurd (omega arith)
none_refuses a b c d false short small missed h = let z : ◌≡◌ {A = ℕ} 0 1 = cc in absurd (omega arith)

module _ {X M : Type 0} (F : flow.Ghosts X) (P : stage.Ghosts X) (s : State F P M) (ins outs : List M) where
  pub record Ready : Type 0 where
    pub place : s.run.ticks < places s.log
    pub in_list : (P.top s.run.network).arriving ≤ length ins
    pub out_list : at (P.top s.run.network).bounds.pair.most 1 ≤ length outs
    pub slots : (P.top s.run.network).bounds.wait ≤ s.slots
    pub same : length s.held ≡ (P.top s.run.network).waits 0

  pub ready : refusal_of_carry F P s ins outs ≡ None → Ready
  ready h =
      let v = P.top s.run.network in
      let first = ltb (length ins) v.arriving in
      let second = ltb (length outs) (at v.bounds.pair.most 1) in
      let p = none_refuses _ _ _ _ (ltb s.run.ticks (places s.log)) (first || second) (ltb s.slots v.bounds.wait) (eqb (length s.held) (v.waits 0)) h in
      let lists = or_parts first second p.long in
      record {
        place = ltb-true s.run.ticks (places s.log) p.place;
        in_list = ltb-false (length ins) v.arriving lists.0;
        out_list = ltb-false (length outs) (at v.bounds.pair.most 1) lists.1;
        slots = ltb-false s.slots v.bounds.wait p.large;
        same = eqb-true (length s.held) (v.waits 0) p.same;
      }
