use Rattle.std.proofs.Common.{get_or, sym, subst, arith}
use Rattle.std.proofs.lemmas.List.{take_all, take_more}
use Rattle.runs.specs.declared.calls.Call.TheVariants.{Tick}
use Rattle.runs.specs.Calls.{desk, nothing, Through, none, next}
use Rattle.runs.proofs.states.Running.work.Goals as goal

pub loop-call-init : goal.loop-call-init
loop-call-init g c = (none, omega arith, omega arith, omega arith)

pub loop-call-preserved : goal.loop-call-preserved
loop-call-preserved g c =
    let calls = c.args.calls.now in
    let k = c.loop-call.call-index in
    let one = get_or calls k Tick in
    let more = sym (take_more calls k Tick c.loop-call-test.true) in (
      subst (λ cs. Through g.P.Flow g.P.Stage c.args.input.now (desk c.args.self.now c.args.log.now c.args.ring.now c.args.out.now nothing) cs (desk c.obey-done.new.self c.obey-done.new.log c.obey-done.new.ring c.obey-done.new.out c.obey-done.result)) more
          (next one _ c.loop-call.invariant.0 c.obey-done.ensures.called),
      c.obey-done.ensures.taken,
      omega (arith, c.obey-done.ensures.given, c.obey-done.auto.out),
      omega (arith, c.obey-done.ensures.few, c.loop-call.invariant.3),
    )

pub returns : goal.returns
returns g c =
    subst (λ cs. Through g.P.Flow g.P.Stage c.args.input.now (desk c.args.self.now c.args.log.now c.args.ring.now c.args.out.now nothing) cs (desk c.loop-call.self c.loop-call.log c.loop-call.ring c.loop-call.out c.loop-call.done))
    (take_all c.loop-call.call-index c.args.calls.now c.loop-call-test.false) c.loop-call.invariant.0
