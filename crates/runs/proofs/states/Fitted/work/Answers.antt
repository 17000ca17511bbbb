use Rattle.std.proofs.Common.{refl, subst}
use Rattle.runs.specs.Held.{holds, room}
use Rattle.runs.specs.Runs.{lists, EveryRun}
use Rattle.runs.specs.Calls.{desk, nothing, Through}
use Rattle.runs.proofs.Listed.{listed, as_long}
use Rattle.runs.proofs.states.Fitted.work.Goals as goal

pub returns : goal.returns
returns g c =
    let F = g.P.Flow in
    let P = g.P.Stage in
    let x = c.args.self.network in
    let through = subst (λ r. Through F P c.args.input.now (desk r c.args.log.now c.args.ring.now c.args.out.now nothing) c.args.calls.now (desk c.work-done.new.self c.work-done.new.log c.work-done.new.ring c.work-done.new.out c.work-done.result)) c.start-running.ensures.value c.work-done.ensures in
    let done = listed F P c.args.input.now _ refl refl through in
    let long = as_long F P c.args.input.now _ through in
    record {
      through = through;
      kept = λ empty. subst (λ r. EveryRun F P r (holds c.args.ring.now)) c.start-running.ensures.value (c.start-running.ensures.runs empty) (lists c.args.log.now) (room c.args.ring.now) _ _ _ done.run;
      taken = done.taken;
      given = done.given;
      arrived = long.arrived;
      passed = long.passed;
      waiting = long.waiting;
    }
