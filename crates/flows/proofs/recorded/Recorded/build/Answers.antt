use Rattle.std.proofs.Common.{length, sym, ap, ◌∙◌, subst, arith}
use Rattle.tables.specs.Courses.{later, recorded}
use Rattle.flows.specs.Checks.{or_nothing}
use Rattle.flows.specs.Views.{KeepsPair}
use Rattle.flows.specs.declared.recorded.Recorded.{Recorded}
use Rattle.flows.proofs.Accepted.{recorded_sound}
use Rattle.flows.proofs.Laters.{later_none, later_past}
use Rattle.flows.proofs.recorded.Recorded.build.Goals as goal

pub invariant_of-result : goal.invariant_of-result
invariant_of-result c =
    let xs = c.args.list.now in
    record { keeps = subst (KeepsPair c.in-Ok.pair) (sym (later_none (recorded xs))) (recorded_sound c.args.most.now xs c.in-Ok.pair c.in-Ok.ensures) }

pub returns-clause-course : goal.returns-clause-course
returns-clause-course c =
    let xs = c.args.list.now in
    later_none (recorded xs) ∙ ap (λ s. or_nothing s (recorded xs)) c.in-Ok.ensures

pub closed-requires : goal.closed-requires
closed-requires c = let xs = c.args.list.now in later_past xs (length xs) (omega arith)

pub returns-in_default-clause-course : goal.returns-in_default-clause-course
returns-in_default-clause-course c =
    let xs = c.args.list.now in
    ap (λ (s : Recorded). later s.place (recorded s.list.now)) c.closed.ensures.course ∙ later_past xs (length xs) (omega arith) ∙ ap (λ r. or_nothing r (recorded xs)) c.in_default.ensures
