use Rattle.std.proofs.Common.{eqb, refl, rules}
use Rattle.std.proofs.lemmas.List.Recursion.{and_is}
use Rattle.book.specs.Layout.{all_zero}
use Rattle.book.proofs.zeros.is_zero.Goals as goal

pub returns : goal.returns
returns c = and_is all_zero (λ b. eqb b 0) refl (λ _ _. refl) c.args.bytes.now 0 _ (search rules) (search rules)
