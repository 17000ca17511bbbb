use Rattle.std.proofs.Common.{sym, refl, ◌∙◌, arith}
use Rattle.tables.specs.Tables.{at}
use Rattle.tables.proofs.Curves.{excess_under}
use Rattle.tables.proofs.Pairs.{keeps, at_under, shows_curves}
use Rattle.tables.proofs.Tables.{shows_to}
use Rattle.tables.proofs.server.Settled.rest.Goals as goal

pub invariant_of-result : goal.invariant_of-result
invariant_of-result c =
    let e = c.args.self.now.events.now in
    let s = c.args.self.now.service.now in
    keeps c.excess_table.ensures (shows_to s.same (λ k _. refl) c.excess_table-2.ensures)
    (λ k h. excess_under (at s.least) (at s.most) (at e.most) (at e.least) k (λ j l. at_under s j (omega arith)) (λ j l. at_under e j (omega arith)))

pub returns : goal.returns
returns c =
    let s = c.args.self.now.service.now in
    shows_curves (shows_to (sym c.args.self.now.same) (λ k _. refl) c.excess_table.ensures) (shows_to (s.same ∙ sym c.args.self.now.same) (λ k _. refl) c.excess_table-2.ensures)
