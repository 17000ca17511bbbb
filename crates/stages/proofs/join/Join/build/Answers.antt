use Rattle.std.proofs.Common.{◌≡◌, is_ok, Ok, Err, refl, ap, ◌∙◌}
use Rattle.tables.specs.Bounds.{join_answer}
use Rattle.tables.specs.Tables.{curves}
use Rattle.flows.specs.Views.{Fine, Idle}
use Rattle.flows.proofs.Views.{all_append}
use Rattle.stages.specs.Joins.{join_fits, joined_or_closed}
use Rattle.stages.proofs.Joining.{join_fine}
use Rattle.stages.proofs.join.Join.build.Goals as goal

pub invariant_of-result : goal.invariant_of-result
invariant_of-result g c =
    let A = g.A.Flow in
    let B = g.B.Flow in
    let x = c.args.left in
    let y = c.args.right in
    record {
      fine = (
        join_fine A B x y c.in-Ok.pair (c.in-Ok.ensures ∙ (λ i. join_answer (curves (c.pair.ensures i)) (curves (c.pair-2.ensures i)))),
        all_append Fine (A.views x) (B.views y) (A.viewed x) (B.viewed y),
      );
    }

pub returns : goal.returns
returns g c =
    let A = g.A.Flow in
    let B = g.B.Flow in
    let x = c.args.left in
    let y = c.args.right in
    let fit : Ok (curves c.in-Ok.pair) ≡ join_fits A B x y = c.in-Ok.ensures ∙ (λ i. join_answer (curves (c.pair.ensures i)) (curves (c.pair-2.ensures i))) in
    record {
      built = record {
        left = refl;
        right = refl;
        opens = ap is_ok fit;
        bounds = ap (joined_or_closed (A.pair x).most.frame) fit;
      };
      fresh = (refl, all_append Idle (A.views x) (B.views y) c.requires.fresh c.requires.idle);
    }

pub returns-in_default : goal.returns-in_default
returns-in_default g c =
    let A = g.A.Flow in
    let B = g.B.Flow in
    let x = c.args.left in
    let y = c.args.right in
    let closed = c.closed.ensures in
    let refused : Err c.in_default.field-0 ≡ join_fits A B x y = c.in_default.ensures ∙ (λ i. join_answer (curves (c.pair.ensures i)) (curves (c.pair-2.ensures i))) in
    record {
      built = record {
        left = closed.left;
        right = closed.right;
        opens = closed.opens ∙ ap is_ok refused;
        bounds = closed.bounds ∙ ap (joined_or_closed (A.pair x).most.frame) refused;
      };
      fresh = closed.fresh;
    }
