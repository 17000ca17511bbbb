use Rattle.std.proofs.Common.{◌-◌, arith}
use Rattle.tables.specs.Courses.{recorded}
use Rattle.tables.specs.Tables.{at}
use Rattle.tables.proofs.Circles.{most_around, least_around}
use Rattle.tables.proofs.Curves.{growth_le, deconvolved_ge}
use Rattle.tables.proofs.Pairs.{keeps, shows_curves}
use Rattle.tables.proofs.Tables.{at_zero, shows_to}
use Rattle.tables.proofs.bottoms.slotted.Circle.pair.Goals as goal

pub invariant_of-result : goal.invariant_of-result
invariant_of-result c =
    let t = c.sums-sums.result in
    keeps c.rise_table.ensures c.growth_table.ensures
    (λ k _. omega (arith, growth_le (at t) (t.frame - 1) k, deconvolved_ge (at t) (at t) (t.frame - 1) k (at_zero t)))

pub returns : goal.returns
returns c =
    let s = recorded c.args.self.now.counts.now in
    let shows = c.sums-sums.ensures in
    shows_curves (shows_to shows.frame (λ k _. most_around s shows k) c.rise_table.ensures) (shows_to shows.frame (λ k _. least_around s shows k) c.growth_table.ensures)
