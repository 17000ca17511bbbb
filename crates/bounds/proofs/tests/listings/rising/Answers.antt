use Rattle.std.proofs.Common.{rules}
use Rattle.bounds.proofs.tests.listings.rising.Goals as goal

pub returns : goal.returns
returns c = λ k h. let made = c.from_fn.ensures.items.at k 0 h in search rules
