use Rattle.std.proofs.Common.{refl}
use Rattle.tables.proofs.Pairs.{keeps, passed_under, shows_curves}
use Rattle.tables.proofs.Tables.{shows_to}
use Rattle.tables.proofs.server.Settled.passed.Goals as goal

pub invariant_of-result : goal.invariant_of-result
invariant_of-result c =
    let e = c.args.self.now.events.now in
    keeps c.passed_most.ensures (shows_to e.same (λ k _. refl) c.convolved_table.ensures) (passed_under e c.args.self.now.service.now c.args.self.now.settling c.args.self.now.same)

pub returns : goal.returns
returns c = shows_curves c.passed_most.ensures (shows_to c.args.self.now.events.now.same (λ k _. refl) c.convolved_table.ensures)
