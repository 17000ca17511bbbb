use Rattle.std.proofs.Common.{ℕ, sym, ap, ◌∙◌, subst}
use Rattle.courses.specs.Bottoms.{clocked}
use Rattle.courses.proofs.Bottoms.{clocked_sum}
use Rattle.tables.specs.Courses.{sum}
use Rattle.tables.proofs.Clocks.{clocked_some}
use Rattle.flows.specs.Checks.{or_nothing}
use Rattle.flows.specs.States.{clock}
use Rattle.flows.specs.Views.{KeepsPair}
use Rattle.flows.specs.declared.clocked.Clocked.{Clocked}
use Rattle.flows.proofs.Accepted.{clocked_sound}
use Rattle.flows.proofs.Beats.{clock_starts, clock_closed}
use Rattle.flows.proofs.clocked.Clocked.build.Goals as goal

pub invariant_of-result : goal.invariant_of-result
invariant_of-result c =
    let p = c.args.period in
    let j = c.args.jitter in
    let sound = clocked_sound c.args.frame p j c.in-Ok.pair c.in-Ok.ensures in
    record { keeps = subst (KeepsPair c.in-Ok.pair) (sym (clock_starts p j sound.ticks)) sound.keeps }

pub returns-clause-course : goal.returns-clause-course
returns-clause-course c =
    let p = c.args.period in
    let j = c.args.jitter in
    let is = c.in-Ok.ensures in
    clock_starts p j (clocked_sound c.args.frame p j c.in-Ok.pair is).ticks ∙ ap (λ s. or_nothing s (clocked p j)) is

pub returns-clause-handed : goal.returns-clause-handed
returns-clause-handed c =
    let p = c.args.period in
    let j = c.args.jitter in
    let ticks = (clocked_sound c.args.frame p j c.in-Ok.pair c.in-Ok.ensures).ticks in
    λ _ t h. ap (λ (a : ℕ → ℕ). sum a t) (clock_starts p j ticks) ∙ clocked_sum p j ticks t ∙ sym (clocked_some p j t h)

pub closed-requires : goal.closed-requires
closed-requires c = clock_closed

pub returns-in_default-clause-course : goal.returns-in_default-clause-course
returns-in_default-clause-course c =
    ap (λ (s : Clocked). clock s.period s.beat s.phase s.count) c.closed.ensures.course ∙ clock_closed ∙ ap (λ r. or_nothing r (clocked c.args.period c.args.jitter)) c.in_default.ensures
