use Rattle.std.proofs.Common.{sym, subst}
use Rattle.flows.specs.Views.{KeepsPair}
use Rattle.flows.proofs.Kept.{keeps_nothing}
use Rattle.flows.proofs.bottom.Bottom.closed.Goals as goal

pub invariant_of-result : goal.invariant_of-result
invariant_of-result g c = record { keeps = subst (KeepsPair c.zero.result) (sym c.requires) (keeps_nothing c.zero.result c.zero.ensures) }
