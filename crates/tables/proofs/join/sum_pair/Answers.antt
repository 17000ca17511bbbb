use Rattle.std.proofs.Common.{refl, ap, arith}
use Rattle.tables.specs.Tables.{at}
use Rattle.tables.proofs.Pairs.{keeps, at_under, shows_curves}
use Rattle.tables.proofs.Tables.{shows_to}
use Rattle.tables.proofs.join.sum_pair.Goals as goal

pub sum_table-requires-2 : goal.sum_table-requires-2
sum_table-requires-2 c =
    let a = c.args.a.now in
    let b = c.args.b.now in
    let n = a.most.frame in
    omega (arith, c.requires.fits, at_under a n (omega arith), at_under b n (omega arith), ap (at a.least) a.same, ap (at b.least) a.same)

pub invariant_of-result : goal.invariant_of-result
invariant_of-result c =
    let a = c.args.a.now in
    let b = c.args.b.now in
    keeps c.sum_table.ensures (shows_to a.same (λ k _. refl) c.sum_table-2.ensures) (λ k h. omega (arith, at_under a k (omega arith), at_under b k (omega arith)))

pub returns : goal.returns
returns c = shows_curves c.sum_table.ensures (shows_to c.args.a.now.same (λ k _. refl) c.sum_table-2.ensures)
