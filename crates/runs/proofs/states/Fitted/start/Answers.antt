use Rattle.std.proofs.Common.{refl, subst}
use Rattle.flows.specs.Views.{Idle, All}
use Rattle.runs.specs.Held.{holds}
use Rattle.runs.proofs.Every.{at_start, every}
use Rattle.runs.proofs.states.Fitted.start.Goals as goal

pub returns : goal.returns
returns g c =
    let F = g.P.Flow in
    let x = c.args.self.network in
    let idle = (subst (All Idle) (g.met.P.Stage.first x) c.args.self.fresh).0 in
    record {
      value = at_start F g.P.Stage x _ _;
      network = refl;
      sums = (refl, refl, refl, refl);
      runs = every F g.P.Stage _ (holds c.args.ring.now) refl refl refl refl idle (F.viewed x) c.args.self.fresh;
    }
