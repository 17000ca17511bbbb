use Rattle.std.proofs.Common.{sym, refl}
use Rattle.runs.proofs.Rounds.{length_held}
use Rattle.runs.proofs.slots.Ring.len.Goals as goal

pub returns : goal.returns
returns g c =
    let r = c.args.self.now in
    record { value = sym (length_held r.slots.now r.head r.held r.begins r.few); held = refl }
