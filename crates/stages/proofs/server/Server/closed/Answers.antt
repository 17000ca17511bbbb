use Rattle.stages.proofs.Opens.{closed_keeps, closed_fine}
use Rattle.stages.proofs.server.Server.closed.Goals as goal

pub invariant_of-result-clause-fine : goal.invariant_of-result-clause-fine
invariant_of-result-clause-fine g c =
    let zero = c.zero_like-zero.result in
    let n = c.pair.result.now.most.frame in
    let zeros = c.zero_like-zero.ensures in
    (closed_fine n _ zeros (closed_keeps n zero zeros), tt)
