use Rattle.std.proofs.Common.{get_or, refl, arith, rules}
use Rattle.tables.specs.Curves.{most_passed}
use Rattle.tables.specs.Tables.{at}
use Rattle.tables.proofs.Curves.{graph_at}
use Rattle.tables.proofs.Pairs.{passed_graph, passed_same}
use Rattle.tables.proofs.Tables.{shows_to}
use Rattle.tables.proofs.server.Settled.passed_most.Goals as goal

pub of-requires-clause-graph : goal.of-requires-clause-graph
of-requires-clause-graph c =
    let e = c.args.self.now.events.now in
    let s = c.args.self.now.service.now in
    let d = c.args.self.now.settling in (
      most_passed d (at e.most) (at s.most) (at s.least),
      graph_at c.frame.ensures.value (passed_graph e s d c.args.self.now.same),
      λ k r h gives. let same = passed_same e s d c.args.self.now.same (λ n. get_or c.convolved_all-carried.result n 0) c.convolved_all-carried.ensures (omega arith) k (omega arith) in search rules,
    )

pub returns : goal.returns
returns c =
    let e = c.args.self.now.events.now in
    let s = c.args.self.now.service.now in
    let d = c.args.self.now.settling in
    shows_to c.frame.ensures.value (λ k _. refl)
    (c.of.ensures (most_passed d (at e.most) (at s.most) (at s.least))
    (λ k r h gives. let same = passed_same e s d c.args.self.now.same (λ n. get_or c.convolved_all-carried.result n 0) c.convolved_all-carried.ensures (omega arith) k (omega arith) in search rules))
