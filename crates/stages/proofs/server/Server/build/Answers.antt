use Rattle.std.proofs.Common.{◌≡◌, Ok, Err, refl, ap, ◌∙◌}
use Rattle.tables.specs.Bounds.{serving, server_answer}
use Rattle.tables.specs.Curves.{Settles, Shortest}
use Rattle.tables.specs.Tables.{at, curves}
use Rattle.courses.specs.Steps.{server_after}
use Rattle.flows.specs.Views.{Idle, Fine}
use Rattle.flows.proofs.Views.{all_append}
use Rattle.stages.specs.Opens.{where_open}
use Rattle.stages.specs.Servers.{fits, serving_or_closed}
use Rattle.stages.proofs.Fitting.{open_fine}
use Rattle.stages.proofs.Opens.{both}
use Rattle.stages.proofs.server.Server.build.Goals as goal

pub invariant_of-result-clause-fine : goal.invariant_of-result-clause-fine
invariant_of-result-clause-fine g c =
    let E = g.E.Flow in
    let S = g.S.Flow in
    let x = c.args.events in
    let y = c.args.service in
    let b = c.in-Ok.bounds in (
      open_fine E S x y b (c.in-Ok.ensures.value ∙ (λ i. server_answer (curves (c.pair.ensures i)) (curves (c.pair-2.ensures i))))
          (both (λ p q. Settles p.most.frame (at p.most) (at q.least) b.settling) c.pair.ensures c.pair-2.ensures c.in-Ok.ensures.settles)
          (both (λ p q. Shortest b.settling (at p.most) (at q.least) b.delay) c.pair.ensures c.pair-2.ensures c.in-Ok.ensures.shortest),
      all_append Fine (E.views x) (S.views y) (E.viewed x) (S.viewed y),
    )

pub returns : goal.returns
unfolding server_after
returns g c =
    let E = g.E.Flow in
    let S = g.S.Flow in
    let x = c.args.events in
    let y = c.args.service in
    let fit : Ok (serving c.in-Ok.bounds) ≡ fits E S x y = c.in-Ok.ensures.value ∙ (λ i. server_answer (curves (c.pair.ensures i)) (curves (c.pair-2.ensures i))) in
    record {
      built = record {
        events = refl;
        service = refl;
        waiting = ap (λ r. where_open r 0) fit;
        bounds = ap (serving_or_closed (E.pair x).most.frame) fit;
      };
      fresh = (refl, all_append Idle (E.views x) (S.views y) c.requires.fresh c.requires.idle);
    }

pub returns-in_default : goal.returns-in_default
returns-in_default g c =
    let E = g.E.Flow in
    let S = g.S.Flow in
    let x = c.args.events in
    let y = c.args.service in
    let closed = c.closed.ensures in
    let refused : Err c.in_default.field-0 ≡ fits E S x y = c.in_default.ensures.value ∙ (λ i. server_answer (curves (c.pair.ensures i)) (curves (c.pair-2.ensures i))) in
    record {
      built = record {
        events = closed.events;
        service = closed.service;
        waiting = closed.waiting ∙ ap (λ r. where_open r 0) refused;
        bounds = closed.bounds ∙ ap (serving_or_closed (E.pair x).most.frame) refused;
      };
      fresh = closed.fresh;
    }
