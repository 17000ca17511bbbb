use Rattle.std.proofs.Common.{arith, rules}
use Rattle.tables.proofs.Sums.{sum_all}
use Rattle.tables.proofs.bottoms.slotted.slotted_pair.Goals as goal

pub returns-then-total-gt1000000 : goal.returns-then-total-gt1000000
returns-then-total-gt1000000 c = let all = sum_all c.args.counts.now in search rules

pub invariant_of-pair : goal.invariant_of-pair
invariant_of-pair c = let long = c.in_ok-check_frame.ensures.within in record { some = omega arith; few = omega arith; low = omega (arith, c.total.ensures, sum_all c.args.counts.now) }
