use Rattle.std.proofs.Common.{◌≡◌, Ok, Err, refl, ap, ◌∙◌, subst}
use Rattle.tables.specs.Bounds.{shaping, shaper_answer}
use Rattle.tables.specs.Curves.{Shortest}
use Rattle.tables.specs.Tables.{at, curve, curves}
use Rattle.tables.specs.declared.pair.Pair.{Pair}
use Rattle.courses.specs.Steps.{shaper_after}
use Rattle.stages.specs.Opens.{where_open}
use Rattle.stages.specs.Shapers.{shaper_fits, shaping_or_closed}
use Rattle.stages.proofs.Shaping.{shaper_fine}
use Rattle.stages.proofs.shaper.Shaper.build.Goals as goal

pub invariant_of-result-clause-fine : goal.invariant_of-result-clause-fine
invariant_of-result-clause-fine g c =
    let E = g.E.Flow in
    let x = c.args.events in
    let h = c.args.table in
    let b = c.in-Ok.bounds in (
      shaper_fine E x h b (c.in-Ok.ensures.value ∙ ap (λ (p : Pair). shaper_answer (curves p) (curve h)) c.pair.ensures)
          (subst (λ (p : Pair). Shortest p.most.frame (at p.most) (at h) b.delay) c.pair.ensures c.in-Ok.ensures.shortest),
      E.viewed x,
    )

pub returns : goal.returns
unfolding shaper_after
returns g c =
    let E = g.E.Flow in
    let x = c.args.events in
    let h = c.args.table in
    let fit : Ok (shaping c.in-Ok.bounds) ≡ shaper_fits E x h = c.in-Ok.ensures.value ∙ ap (λ (p : Pair). shaper_answer (curves p) (curve h)) c.pair.ensures in
    record {
      built = record {
        events = refl;
        table = refl;
        waiting = ap (λ r. where_open r 0) fit;
        idle = refl;
        bounds = ap (shaping_or_closed (E.pair x).most.frame) fit;
      };
      fresh = (refl, c.requires);
    }

pub returns-in_default : goal.returns-in_default
returns-in_default g c =
    let E = g.E.Flow in
    let x = c.args.events in
    let h = c.args.table in
    let closed = c.closed.ensures in
    let refused : Err c.in_default.field-0 ≡ shaper_fits E x h = c.in_default.ensures.value ∙ ap (λ (p : Pair). shaper_answer (curves p) (curve h)) c.pair.ensures in
    record {
      built = record {
        events = closed.events;
        table = closed.table;
        waiting = closed.waiting ∙ ap (λ r. where_open r 0) refused;
        idle = closed.idle;
        bounds = closed.bounds ∙ ap (shaping_or_closed (E.pair x).most.frame) refused;
      };
      fresh = closed.fresh;
    }
