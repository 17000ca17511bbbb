use Rattle.std.proofs.Common.{ap, arith}
use Rattle.flows.specs.declared.bounds.StageBounds.{StageBounds}
use Rattle.own_flow.proofs.networks.smoothed.Goals as goal

-- each stage that is built keeps its bounds, whatever flow stands below
pub returns : goal.returns
returns c = omega (arith, c.waiting.ensures, ap (λ (b : StageBounds). b.wait) c.figures.ensures, c.tick-2.new.self.fine.0.within 0)
