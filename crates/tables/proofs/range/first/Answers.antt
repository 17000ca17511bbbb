use Rattle.std.proofs.Common.{◌≡◌, ◌≤◌, true, false, rules}
use Rattle.std.proofs.lemmas.Iterator.{first_from_Range}
use Rattle.tables.proofs.Ranges.{first_is}
use Rattle.tables.proofs.range.first.Goals as goal

pub returns-clause-value : goal.returns-clause-value
returns-clause-value g c = λ p is.
    let last = c.args.last in
    first_is p c.args.start last _
    (first_from_Range _ _ _ _ (λ k. k ≤ last → p k ≡ true) (λ k. k ≤ last → p k ≡ false) c.find.ensures.ran
    (λ k q called low. search rules)
    (λ k q called. (search rules, λ low. search rules)))
