use Rattle.std.proofs.Common.{◌+◌, length, refl, arith}
use Rattle.tables.specs.Courses.{recorded}
use Rattle.tables.proofs.Fills.{filled_one, filled_more}
use Rattle.tables.proofs.Sums.{sum_more, sum_rises}
use Rattle.tables.proofs.bottoms.slotted.Circle.running_sums.Goals as goal

pub loop-before-init : goal.loop-before-init
loop-before-init c = filled_one refl refl refl

pub overflow_add-sums : goal.overflow_add-sums
overflow_add-sums c =
    let s = recorded c.args.self.now.counts.now in
    let k = c.loop-before.before in
    omega (arith, c.loop-before.invariant.each k (omega arith), sum_more s k, sum_rises s (k + 1) (length c.args.self.now.counts.now) (omega arith), c.args.self.now.low)

pub loop-before-preserved : goal.loop-before-preserved
loop-before-preserved c =
    let s = recorded c.args.self.now.counts.now in
    let k = c.loop-before.before in
    filled_more c.loop-before.invariant (omega arith) (omega (arith, c.loop-before.invariant.each k (omega arith), sum_more s k))

pub returns : goal.returns
returns c = λ k h. c.loop-before.invariant.each k (omega arith)
