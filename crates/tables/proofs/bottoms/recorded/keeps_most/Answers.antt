use Rattle.std.proofs.Common.{sym, ◌∙◌, rules}
use Rattle.tables.specs.Bottoms.{kept_from, kept_by}
use Rattle.tables.specs.Tables.{at}
use Rattle.tables.proofs.Windows.{kept, broken}
use Rattle.tables.proofs.bottoms.recorded.keeps_most.Goals as goal

pub returns : goal.returns
unfolding kept_by
returns c =
    let t = c.args.most.now in
    let xs = c.args.list.now in
    let value = c.every.ensures (kept_from t.frame (at t) xs) (λ k r h gives. search rules) in
    record {
      value = value;
      kept = λ e. kept t xs (sym value ∙ e);
      broken = λ e. broken t.frame (at t) xs (sym value ∙ e);
    }
