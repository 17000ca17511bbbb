use Rattle.std.proofs.Common.{ap, ◌∙◌}
use Rattle.flows.specs.Checks.{or_nothing}
use Rattle.own_flow.specs.Bursts.{burst}
use Rattle.own_flow.proofs.Bursts.{burst_keeps, burst_closed}
use Rattle.own_flow.proofs.burst.Burst.build.Goals as goal

pub invariant_of-result : goal.invariant_of-result
invariant_of-result c = record { keeps = burst_keeps c.args.count c.in-Ok.pair c.in-Ok.ensures }

pub returns-clause-course : goal.returns-clause-course
returns-clause-course c = ap (λ a. or_nothing a (burst c.args.count)) c.in-Ok.ensures

pub returns-in_default-clause-course : goal.returns-in_default-clause-course
returns-in_default-clause-course c = ap burst c.closed.ensures.course ∙ burst_closed ∙ ap (λ a. or_nothing a (burst c.args.count)) c.in_default.ensures
