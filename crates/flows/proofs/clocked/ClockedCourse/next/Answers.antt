use Rattle.std.proofs.Common.{arith}
use Rattle.flows.proofs.Beats.{clock_goes, clock_beats}
use Rattle.flows.proofs.clocked.ClockedCourse.next.Goals as goal

pub returns-then-self-clause-next : goal.returns-then-self-clause-next
returns-then-self-clause-next c = let s = c.args.self.now in clock_goes s.period s.beat s.phase s.count (omega arith)

pub returns-else-self-clause-next : goal.returns-else-self-clause-next
returns-else-self-clause-next c = let s = c.args.self.now in let inside = s.inside in clock_beats s.period s.beat s.phase s.count (omega arith)
