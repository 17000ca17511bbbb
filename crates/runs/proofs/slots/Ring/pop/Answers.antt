use Rattle.std.proofs.Common.{refl, arith}
use Rattle.runs.proofs.Rounds.{pop_held}
use Rattle.runs.proofs.slots.Ring.pop.Goals as goal

pub returns : goal.returns
returns g c =
    record {
      oldest = pop_held c.args.self.now.slots.now c.args.self.now.head c.args.self.now.held c.place-place.result c.index-self-place.result c.args.self.now.begins (omega arith) c.args.self.now.few c.place-place.ensures.near c.place-place.ensures.round;
      some = λ h. refl;
      slots = refl;
      count = refl;
    }
