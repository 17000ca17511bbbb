use Rattle.stages.proofs.Opens.{closed_fine}
use Rattle.stages.proofs.join.Join.closed.Goals as goal

pub invariant_of-result : goal.invariant_of-result
invariant_of-result g c = record { fine = (closed_fine c.pair.result.now.most.frame _ c.zero_like-pair.ensures tt, tt) }
