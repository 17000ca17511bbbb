use Rattle.std.proofs.Common.{min, ◌∙◌, rules}
use Rattle.tables.proofs.Ranges.{chosen_smallest}
use Rattle.tables.proofs.range.smallest.Goals as goal

pub returns : goal.returns
returns g c = λ f gives. c.chosen.ensures f min (λ k r h p. gives k r h p) (λ x y r p. search rules) ∙ chosen_smallest c.args.last f
