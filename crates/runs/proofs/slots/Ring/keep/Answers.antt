use Rattle.std.proofs.Common.{◌<◌, length, ◌∙◌, arith}
use Rattle.std.proofs.lemmas.List.{take_all}
use Rattle.runs.proofs.Rounds.{keep_step}
use Rattle.runs.proofs.slots.Ring.keep.Goals as goal

pub loop-m-preserved : goal.loop-m-preserved
loop-m-preserved g c =
    let h : c.loop-m.self.held < length c.loop-m.self.slots.now = omega arith in (
      keep_step _ _ _ c.args.fresh.now c.loop-m.m-index c.m-item.result c.loop-m.invariant.0 c.push.ensures.taken c.loop-m-test.true c.m-item.is,
      c.push.ensures.slots ∙ c.loop-m.invariant.1,
      omega (arith, c.push.ensures.count),
    )

pub returns : goal.returns
returns g c =
    let t = take_all c.loop-m.m-index c.args.fresh.now c.loop-m-test.false in
    record { order = cc; slots = c.loop-m.invariant.1; count = omega arith }
