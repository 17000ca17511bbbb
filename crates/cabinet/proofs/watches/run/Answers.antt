use Rattle.std.proofs.Common.{ap, ◌∙◌, arith}
use Rattle.runs.specs.declared.states.Sums.{Sums}
use Rattle.cabinet.proofs.Watched.{waited, first_in}
use Rattle.cabinet.proofs.watches.run.Goals as goal

pub returns-clause-wait : goal.returns-clause-wait
returns-clause-wait g c =
    let kept = c.work-worked.ensures.kept c.new-ring.ensures.holds in
    let w = waited g.P.Flow g.P.Stage g.met.P.Stage.first _ _ _ _ kept in
    omega (arith, w, ap (λ (x : Sums). x.greatest) (c.sums-sums.ensures ∙ c.report.ensures.sums), ap (λ x. (g.P.Stage.top x).bounds.wait) c.new.ensures)

pub returns-clause-order : goal.returns-clause-order
returns-clause-order g c =
    let kept = c.work-worked.ensures.kept c.new-ring.ensures.holds in
    first_in c.args.input.now c.work-worked.new.out _ c.work-worked.result.done.taken c.work-worked.result.done.given kept.order c.work-worked.ensures.taken c.work-worked.ensures.given
