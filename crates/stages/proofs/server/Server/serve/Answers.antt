use Rattle.std.proofs.Common.{ap, sym, subst, refl, ◌∙◌, rules}
use Rattle.flows.specs.Views.{All, Fine}
use Rattle.stages.specs.ServerViews.{serving_view, serving_views}
use Rattle.stages.proofs.Opens.{first_small}
use Rattle.stages.proofs.Serving.{ticked, next_fine, held}
use Rattle.stages.proofs.server.Server.serve.Goals as goal

pub overflow_add-all : goal.overflow_add-all
overflow_add-all g c =
    let s = c.args.self.now in
    let e = g.E.Flow in
    let few = first_small (e.pair s.events) (e.course s.events) (e.keeps s.events) in
    let wait = held e g.S.Flow s c.in-Some.waiting c.in-Some.is in
    let small = s.small in
    let is = c.draw-arrived.ensures.count in
    search rules

pub invariant_of-self-clause-fine : goal.invariant_of-self-clause-fine
invariant_of-self-clause-fine g c =
    let s = c.args.self.now in
    let a = c.draw-arrived.ensures in
    let b = c.draw-places.ensures in
    next_fine g.E.Flow g.S.Flow s.events c.draw-arrived.new.self s.service c.draw-places.new.self s.bounds c.in-Some.waiting c.draw-arrived.result c.draw-places.result c.min-passed.result
    record { count = a.count; next = a.next; same = a.same; views = a.views }
    record { count = b.count; next = b.next; same = b.same; views = b.views }
    c.min-passed.ensures
    (subst (λ o. All Fine (serving_views g.E.Flow g.S.Flow o s.events s.service s.bounds)) c.in-Some.is s.fine)

pub returns : goal.returns
returns g c =
    let s = c.args.self.now in
    let a = c.draw-arrived.ensures in
    let b = c.draw-places.ensures in
    record {
      arrived = a.count ∙ ap (λ o. (serving_view g.E.Flow g.S.Flow o s.events s.service s.bounds).arrived 0) (sym c.in-Some.is);
      ticked =
          ticked g.E.Flow g.S.Flow s _ c.in-Some.waiting c.draw-arrived.result c.draw-places.result c.min-passed.result c.in-Some.is refl
          record { count = a.count; next = a.next; same = a.same; views = a.views }
          record { count = b.count; next = b.next; same = b.same; views = b.views }
          c.min-passed.ensures refl;
    }
