use Rattle.std.proofs.Common.{not, rules}
use Rattle.tables.proofs.Ranges.{first_every}
use Rattle.tables.proofs.range.every.Goals as goal

pub returns : goal.returns
returns g c = λ p is.
    let found = c.first.ensures.value (λ k. not (p k)) (λ k r h post. search rules) in
    search (rules, first_every)
