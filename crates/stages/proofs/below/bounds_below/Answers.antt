use Rattle.std.proofs.Common.{rules}
use Rattle.flows.proofs.Views.{look_both}
use Rattle.stages.proofs.below.bounds_below.Goals as goal

pub returns : goal.returns
returns g c =
    look_both (g.A.Flow.views c.args.first.now) (g.B.Flow.views c.args.second.now) c.args.place c.bounds.result c.or_else.result _ c.bounds.ensures c.or_else.ensures (λ j h. search rules)
