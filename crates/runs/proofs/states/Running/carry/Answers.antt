use Rattle.std.proofs.Common.{◌≡◌, None, sym, ap, ◌∙◌, arith}
use Rattle.std.specs.Result.{result_err}
use Rattle.stages.proofs.Opens.{first_few}
use Rattle.runs.specs.Held.{holds, room}
use Rattle.runs.specs.Runs.{lists, refusal_of_carry}
use Rattle.runs.proofs.Rounds.{length_held}
use Rattle.runs.proofs.Tops.{top_fine, ready}
use Rattle.runs.proofs.states.Running.carry.Goals as goal

pub carry-requires : goal.carry-requires
carry-requires g c =
    let run = c.args.self.now in
    let ring = c.args.ring.now in
    let x = run.network in
    let v = g.P.Stage.top x in
    let fine = top_fine (g.P.Flow.views x) (g.P.Stage.below x) v (g.met.P.Stage.first x) (g.P.Flow.viewed x) in
    let is = ready g.P.Flow g.P.Stage (record { run = run; log = lists c.args.log.now; held = holds ring; slots = room ring }) c.args.input.now c.args.out.now (sym c.may_carry.ensures ∙ ap result_err c.in_ok-may_carry.was) in
    let long = length_held ring.slots.now ring.head ring.held ring.begins ring.few in
    let w = c.take_tick-counts.ensures in
    let few = first_few v.bounds.pair v.passed fine.keeps 0 in
    record {
      arrived = omega (arith, fine.few 0, w.arrived, is.in_list);
      places = omega (arith, few, w.passed, is.out_list);
      there = omega (arith, fine.account 0, w.arrived, w.passed, is.same, long);
      room = omega (arith, fine.account 0, fine.within 1, w.arrived, w.passed, is.same, is.slots, long);
    }

pub returns : goal.returns
returns g c =
    let run = c.args.self.now in
    let ring = c.args.ring.now in
    let x = run.network in
    let v = g.P.Stage.top x in
    let fine = top_fine (g.P.Flow.views x) (g.P.Stage.below x) v (g.met.P.Stage.first x) (g.P.Flow.viewed x) in
    let none : refusal_of_carry g.P.Flow g.P.Stage (record { run = run; log = lists c.args.log.now; held = holds ring; slots = room ring }) c.args.input.now c.args.out.now ≡ None = sym c.may_carry.ensures ∙ ap result_err c.in_ok-may_carry.was in
    let is = ready g.P.Flow g.P.Stage (record { run = run; log = lists c.args.log.now; held = holds ring; slots = room ring }) c.args.input.now c.args.out.now none in
    let w = c.take_tick-counts.ensures in
    let few = first_few v.bounds.pair v.passed fine.keeps 0 in (
      none,
      record {
        went = w;
        in_list = omega (arith, fine.few 0, w.arrived, is.in_list);
        out_list = omega (arith, few, w.passed, is.out_list);
        order = sym c.carry.ensures.order;
        others = c.carry.ensures.rest;
        slots = c.carry.ensures.slots;
      },
    )
