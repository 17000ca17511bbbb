use Rattle.flows.proofs.Kept.{keeps_next}
use Rattle.flows.proofs.bottom.BottomFlow.draw.Goals as goal

pub invariant_of-self : goal.invariant_of-self
invariant_of-self g c = let s = c.args.self.now in record { keeps = keeps_next s.pair c.next.ensures.next s.keeps }
