use Rattle.flows.proofs.Kept.{keeps_next}
use Rattle.own_flow.proofs.Bursts.{burst_over}
use Rattle.own_flow.proofs.burst.BurstFlow.draw.Goals as goal

pub invariant_of-self : goal.invariant_of-self
invariant_of-self c = let s = c.args.self.now in record { keeps = keeps_next s.pair (burst_over s.count) s.keeps }

pub returns-clause-next : goal.returns-clause-next
returns-clause-next c = burst_over c.args.self.now.count
