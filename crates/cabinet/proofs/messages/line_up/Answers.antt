use Rattle.std.proofs.Common.{◌≡◌, ap, ◌∙◌, arith}
use Rattle.std.proofs.Math.Seq.{map-set_same}
use Rattle.tables.specs.Courses.{sum}
use Rattle.cabinet.specs.Times.{handed}
use Rattle.cabinet.proofs.Rows.{source_more}
use Rattle.cabinet.proofs.messages.line_up.Goals as goal

pub loop-pack-preserved : goal.loop-pack-preserved
loop-pack-preserved c =
    let items = c.loop-pack.pack-items in
    let i = c.loop-pack.pack-index in
    record {
      rows = map-set_same (λ s. s.row.now) items i _ _ (ap (λ row. row.now) c.in_ok-send-3.ensures.row) ∙ c.loop-pack.invariant.rows;
      sent = source_more items c.args.sheet.now.packs c.loop-tick.tick i _ _ _ _ c.loop-pack.invariant.rows (omega (arith, c.loop-tick.invariant.four, c.loop-pack-test.true)) c.loop-pack.invariant.sent c.in_ok-send-3.ensures.sent;
    }

pub returns : goal.returns
returns c = λ n e.
    let is : c.loop-tick.tick ≡ n = omega (arith, e, c.loop-tick-test.false) in
    c.loop-tick.invariant.sent ∙ ap (sum (handed c.args.sheet.now)) is
