use Rattle.std.proofs.Common.{refl, length-set}
use Rattle.runs.proofs.Rounds.{push_held}
use Rattle.runs.proofs.slots.Ring.push.Goals as goal

pub returns : goal.returns
returns g c = record {
  taken = push_held _ _ _ _ _ c.args.self.now.begins c.requires c.place-place.ensures.near c.place-place.ensures.round;
  slots = length-set _ _ _;
  count = refl;
}
