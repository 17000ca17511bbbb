use Rattle.std.proofs.Common.{sym, subst, refl, rules}
use Rattle.flows.specs.Views.{All, Fine}
use Rattle.stages.specs.JoinViews.{joining_views}
use Rattle.stages.proofs.Joining.{ticked, next_fine}
use Rattle.stages.proofs.Opens.{first_small}
use Rattle.stages.proofs.join.Join.tick.Goals as goal

pub overflow_add-result : goal.overflow_add-result
overflow_add-result g c =
    let s = c.args.self.now in
    let a = g.A.Flow in
    let b = g.B.Flow in
    let left = first_small (a.pair s.left) (a.course s.left) (a.keeps s.left) in
    let right = first_small (b.pair s.right) (b.course s.right) (b.keeps s.right) in
    let is-left = c.draw-left.ensures.count in
    let is_right = c.draw-right.ensures.count in
    search rules

pub invariant_of-self : goal.invariant_of-self
invariant_of-self g c =
    let s = c.args.self.now in
    let A = g.A.Flow in
    let B = g.B.Flow in
    let x = c.draw-left.new.self in
    let y = c.draw-right.new.self in
    let a = c.draw-left.ensures in
    let b = c.draw-right.ensures in
    let is = c.if-not-self.false in
    record {
      fine =
          subst (λ o. All Fine (joining_views A B o x y s.pair)) (sym is)
          (next_fine A B s.left x s.right y s.pair c.draw-left.result c.draw-right.result
          record { count = a.count; next = a.next; same = a.same; views = a.views }
          record { count = b.count; next = b.next; same = b.same; views = b.views }
          (subst (λ o. All Fine (joining_views A B o s.left s.right s.pair)) is s.fine));
    }

pub returns : goal.returns
returns g c =
    let a = c.draw-left.ensures in
    let b = c.draw-right.ensures in
    let is = c.if-not-self.false in
    ticked g.A.Flow g.B.Flow c.args.self.now _ c.draw-left.result c.draw-right.result is is
    record { count = a.count; next = a.next; same = a.same; views = a.views }
    record { count = b.count; next = b.next; same = b.same; views = b.views }
    refl
