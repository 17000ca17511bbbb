use Rattle.std.proofs.Common.{length, rules}
use Rattle.tables.specs.Courses.{sum, recorded}
use Rattle.tables.proofs.Circles.{sums_graph}
use Rattle.tables.proofs.bottoms.slotted.Circle.sums.Goals as goal

pub of-requires-clause-graph : goal.of-requires-clause-graph
of-requires-clause-graph c =
    let circle = c.args.self.now in
    let xs = circle.counts.now in
    (sum (recorded xs), sums_graph (length xs) (recorded xs) circle.some circle.few circle.low, λ k r h gives. search rules)

pub returns : goal.returns
returns c = c.of.ensures (sum (recorded c.args.self.now.counts.now)) (λ k r h gives. search rules)
