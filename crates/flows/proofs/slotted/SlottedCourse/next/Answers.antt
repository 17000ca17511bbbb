use Rattle.std.proofs.Common.{arith}
use Rattle.tables.specs.Courses.{recorded, slotted}
use Rattle.flows.proofs.Laters.{later_more, turning_now, turning_round}
use Rattle.flows.proofs.slotted.SlottedCourse.next.Goals as goal

pub returns-then-self-clause-count : goal.returns-then-self-clause-count
returns-then-self-clause-count c = let s = c.args.self.now in turning_now s.frame s.counts s.place s.inside

pub returns-then-self-clause-next : goal.returns-then-self-clause-next
returns-then-self-clause-next c = let s = c.args.self.now in later_more (slotted s.frame (recorded s.counts)) s.place

pub returns-else-self-clause-count : goal.returns-else-self-clause-count
returns-else-self-clause-count c = let s = c.args.self.now in turning_now s.frame s.counts s.place s.inside

pub returns-else-self-clause-next : goal.returns-else-self-clause-next
returns-else-self-clause-next c = let s = c.args.self.now in let inside = s.inside in turning_round s.frame s.counts s.place (omega arith)
