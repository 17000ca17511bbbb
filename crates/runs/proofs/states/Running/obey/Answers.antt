use Rattle.std.proofs.Common.{◌≡◌, ◌+◌, ◌-◌, length, Ok, Err, ◌∙◌, arith}
use Rattle.runs.proofs.Pieces.{part_long, part_few, carry_done}
use Rattle.runs.proofs.states.Running.obey.Goals as goal

pub returns-in-Ok-carry : goal.returns-in-Ok-carry
returns-in-Ok-carry g c =
    let w = c.in-Ok-carry.ensures in
    let ins = c.args.input.now in
    let outs = c.args.out.now in
    let d = c.args.done in
    let same : length c.carry.new.out ≡ (d.given + c.min-in-Carry.result) - d.given = c.carry.auto.out ∙ part_long outs d.given c.in-Carry.space c.min-in-Carry.result c.requires.given c.min-in-Carry.ensures in
    record {
      called = carry_done g.P.Flow g.P.Stage ins outs c.carry.new.out _ _ _ _ _ _ _ d (Ok c.in-Ok-carry.counts) c.in-Carry.is c.requires.taken c.requires.given c.min.ensures c.min-in-Carry.ensures same w;
      few = omega arith;
      taken = part_few ins d.taken _ _ c.requires.taken w.1.in_list;
      given = part_few outs d.given _ _ c.requires.given w.1.out_list;
    }

pub returns-in-Err-carry : goal.returns-in-Err-carry
returns-in-Err-carry g c =
    let w = c.in-Err-carry.ensures in
    let ins = c.args.input.now in
    let outs = c.args.out.now in
    let d = c.args.done in
    let same : length c.carry.new.out ≡ (d.given + c.min-in-Carry.result) - d.given = c.carry.auto.out ∙ part_long outs d.given c.in-Carry.space c.min-in-Carry.result c.requires.given c.min-in-Carry.ensures in
    record {
      called = carry_done g.P.Flow g.P.Stage ins outs c.carry.new.out _ _ _ _ _ _ _ d (Err _) c.in-Carry.is c.requires.taken c.requires.given c.min.ensures c.min-in-Carry.ensures same w;
      few = omega arith;
      taken = c.requires.taken;
      given = c.requires.given;
    }
