use Rattle.flows.proofs.Accepted.{steady_sound}
use Rattle.flows.proofs.steady.Steady.build.Goals as goal

pub invariant_of-result : goal.invariant_of-result
invariant_of-result c = record { keeps = steady_sound c.args.frame c.args.count c.in-Ok.pair c.in-Ok.ensures }
