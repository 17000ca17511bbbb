use Rattle.std.proofs.Common.{◌≡◌, length, take, ap, ◌∙◌}
use Rattle.std.proofs.lemmas.List.{take_at}
use Rattle.book.specs.Layout.{checked}
use Rattle.bounds.proofs.Ends.{ended_by, checks}
use Rattle.bounds.proofs.tests.blocks.summed.Goals as goal

pub returns : goal.returns
returns c =
    let long : length c.args.bytes.now ≡ 508 = c.told-bytes in
    let all = ended_by _ _ _ _ _ _ c.copy_from_slice.ensures.after long c.to_be_bytes.ensures c.to_be_bytes-2.ensures in
    record {
      front = ap (take 508) all ∙ take_at c.args.bytes.now _ 508 long;
      checked = ap checked all ∙ checks c.args.bytes.now _ _ long c.check_sums-sums.ensures.sum c.check_sums-sums.ensures.running;
    }
