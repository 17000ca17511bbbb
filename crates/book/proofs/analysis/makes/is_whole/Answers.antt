use Rattle.std.proofs.Common.{arith}
use Rattle.std.proofs.lemmas.Bool.Decides.{nat_tests}
use Rattle.book.specs.Books.{whole}
use Rattle.book.proofs.analysis.makes.is_whole.Goals as goal

pub returns-then-is_empty : goal.returns-then-is_empty
unfolding whole
returns-then-is_empty c = grind (arith, nat_tests)

pub returns-else-is_empty : goal.returns-else-is_empty
unfolding whole
returns-else-is_empty c = grind (arith, nat_tests)
