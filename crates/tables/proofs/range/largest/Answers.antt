use Rattle.std.proofs.Common.{max, ◌∙◌, rules}
use Rattle.tables.proofs.Ranges.{chosen_largest}
use Rattle.tables.proofs.range.largest.Goals as goal

pub returns : goal.returns
returns g c = λ f gives. c.chosen.ensures f max (λ k r h p. gives k r h p) (λ x y r p. search rules) ∙ chosen_largest c.args.last f
