use Rattle.std.proofs.Common.{Some, sym, ap, ◌∙◌, arith}
use Rattle.runs.specs.Held.{holds}
use Rattle.runs.proofs.Rounds.{length_held, at_held, nth_past, nth_at}
use Rattle.runs.proofs.slots.Ring.get.Goals as goal

pub returns-then-place-self : goal.returns-then-place-self
returns-then-place-self g c =
    let r = c.args.self.now in
    sym (nth_past (holds r) c.args.place (omega (arith, length_held r.slots.now r.head r.held r.begins r.few)))

pub returns : goal.returns
returns g c =
    let r = c.args.self.now in
    let i = c.args.place in
    let m = c.index-slots-at.result in
    let long = length_held r.slots.now r.head r.held r.begins r.few in
    ap Some (c.index-slots-at.is ∙ sym (at_held r.slots.now r.head r.held i c.place-at.result m r.begins r.few (omega arith) c.place-at.ensures.near c.place-at.ensures.round))
    ∙ sym (nth_at (holds r) i m (omega (arith, long)))
