use Rattle.std.proofs.Common.{refl, sym, ◌∙◌, arith, rules}
use Rattle.tables.proofs.Ranges.{chosen_none, folded}
use Rattle.tables.proofs.range.chosen.Goals as goal

pub returns : goal.returns
returns g c = λ f op gives by.
    let (xs, q, (u, (t, y, stop)), run) = c.fold.ensures.ran in
    let start = gives 0 _ (omega arith) c.value.ensures ∙ sym (chosen_none op f) in
    folded _ _ op f c.args.last (λ x k r q low called. (search rules, search (rules, by, gives))) xs _ t u _ _ q refl (omega arith) (omega arith) start y stop run
