use Rattle.stages.proofs.Opens.{closed_fine}
use Rattle.stages.proofs.shaper.Shaper.closed.Goals as goal

pub invariant_of-result-clause-fine : goal.invariant_of-result-clause-fine
invariant_of-result-clause-fine g c = (closed_fine c.pair.result.now.most.frame _ c.zero_like-passed.ensures tt, tt)
