use Rattle.std.proofs.Common.{◌∙◌, length-set, arith, rules}
use Rattle.std.proofs.lemmas.List.{get_or_append_left}
use Rattle.tables.proofs.Fills.{filled_more}
use Rattle.tables.proofs.table.makes.front.Goals as goal

pub loop-length-preserved : goal.loop-length-preserved
loop-length-preserved g c =
    let (each, long) = c.loop-length.invariant in
    let k = c.loop-length.length in
    (λ f gives. (filled_more (record { long = long; each = each f gives }) (omega arith) (gives k _ (omega arith) (search rules))).each, length-set c.loop-length.entry-items k _ ∙ long)

pub returns : goal.returns
returns g c = λ f gives k low. get_or_append_left c.loop-length.entry-items _ 0 k (omega (arith, c.loop-length.invariant.1)) ∙ c.loop-length.invariant.0 f gives k (omega arith)
