use Rattle.std.proofs.Common.{◌≡◌, rules}
use Rattle.tables.specs.Curves.{convolved}
use Rattle.tables.specs.Tables.{at}
use Rattle.tables.proofs.Made.{made_each}
use Rattle.tables.proofs.sweeps.convolved_all.Goals as goal

pub returns : goal.returns
returns c = made_each _ _ _ (λ j r. r ≡ convolved (at c.args.a.now) (at c.args.b.now) j) c.from_fn.ensures.items (λ j r q b called. search rules)
