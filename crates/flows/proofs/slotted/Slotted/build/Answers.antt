use Rattle.std.proofs.Common.{◌≡◌, length, replicate, refl, sym, ap, ◌∙◌, subst}
use Rattle.tables.specs.Courses.{recorded, slotted}
use Rattle.flows.specs.Checks.{or_nothing}
use Rattle.flows.specs.States.{turning}
use Rattle.flows.specs.Views.{KeepsPair}
use Rattle.flows.proofs.Accepted.{slotted_sound}
use Rattle.flows.proofs.Laters.{turning_starts, turning_closed}
use Rattle.flows.proofs.slotted.Slotted.build.Goals as goal

pub invariant_of-result : goal.invariant_of-result
invariant_of-result c =
    let xs = c.args.counts.now in
    let n = length xs in
    let sound = slotted_sound xs c.in-Ok.pair c.in-Ok.ensures in
    let starts : turning n c.laid_out.result 0 ≡ slotted n (recorded xs) = turning_starts n xs c.laid_out.result sound.some c.laid_out.ensures in
    record { keeps = subst (KeepsPair c.in-Ok.pair) (sym starts) sound.keeps }

pub returns-clause-course : goal.returns-clause-course
returns-clause-course c =
    let xs = c.args.counts.now in
    let n = length xs in
    let is = c.in-Ok.ensures in
    turning_starts n xs c.laid_out.result (slotted_sound xs c.in-Ok.pair is).some c.laid_out.ensures ∙ ap (λ s. or_nothing s (slotted n (recorded xs))) is

pub closed-requires : goal.closed-requires
closed-requires c = turning_closed (replicate 64 0) refl
