use Rattle.std.proofs.Common.{sym, subst}
use Rattle.flows.proofs.Kept.{keeps_nothing}
use Rattle.flows.specs.Views.{KeepsPair}
use Rattle.own_flow.proofs.Bursts.{burst_closed}
use Rattle.own_flow.proofs.burst.Burst.closed.Goals as goal

pub invariant_of-result : goal.invariant_of-result
invariant_of-result c = record { keeps = subst (KeepsPair c.zero.result) (sym burst_closed) (keeps_nothing c.zero.result c.zero.ensures) }
