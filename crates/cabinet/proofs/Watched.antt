-- What a run keeps, as a watcher sees it.
use Rattle.std.proofs.Common.{◌≡◌, ℕ, ◌≤◌, List, ◌∷◌, ◌++◌, length, take, sym, ap, ◌∙◌, subst, arith, length-append}
use Rattle.std.proofs.lemmas.List.{length-take-le, take_at, take-take}
use Rattle.tables.proofs.Ranges.{largest_le}
use Rattle.flows.specs.Views.{All}
use Rattle.flows.specs.declared.flow.Flow as flow
use Rattle.stages.specs.declared.stage.Stage as stage
use Rattle.runs.specs.Runs.{State, KeptTo, Kept}

module _ {X M : Type 0} (F : flow.Ghosts X) (P : stage.Ghosts X) (first : (x : X) → F.views x ≡ P.top x ∷ P.below x) (s t : State F P M) (i o : List M) (kept : Kept F P s i o t) where
  -- what waited at the top stage is within its wait
  pub waited : t.run.greatest ≤ (P.top s.run.network).bounds.wait
  waited =
      let v = P.top s.run.network in
      let top = (subst (All (KeptTo t.run.ticks)) (first s.run.network) kept.stages).0 in
      omega (arith, kept.greatest, largest_le t.run.ticks v.waits v.bounds.wait top.within)

-- what came out is the first of what went in
pub first_in : {M : Type 0} (ins outs held : List M) (taken given : ℕ) → take taken ins ≡ take given outs ++ held → taken ≤ length ins → given ≤ length outs → take given outs ≡ take given ins
first_in ins outs held taken given e li lo =
    let long : length (take given outs) ≡ given = length-take-le given outs lo in
    let few : given ≤ taken = omega (arith, ap length e, length-take-le taken ins li, length-append (take given outs) held, long) in
    sym (take_at (take given outs) held given long) ∙ ap (take given) (sym e) ∙ take-take given taken ins few
