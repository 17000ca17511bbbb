-- A server whose bounds are those of the tables keeps them from power-on on.
use Rattle.std.proofs.Common.{◌≡◌, ℕ, ◌+◌, Bool, true, false, cond, eqb, Some, None, Ok, Err, Option, sym, ap, ◌∙◌, subst, arith}
use Rattle.tables.specs.Bounds.{Serving, serving, settled, if_settled, server_answer}
use Rattle.tables.specs.Curves.{Settles, Shortest, settling_length}
use Rattle.tables.specs.Tables.{Curves, at, curves}
use Rattle.tables.specs.declared.bounds.ServerBounds.{ServerBounds}
use Rattle.tables.specs.declared.refusal.Refusal.TheVariants.{Frame}
use Rattle.courses.specs.Claims.{Bounds}
use Rattle.courses.specs.Courses.{Keeps, rest}
use Rattle.courses.specs.Steps.{server_after, served}
use Rattle.courses.proofs.Frames.{keeps_repeated}
use Rattle.courses.proofs.Serving.{server_bounds, server_passed, server_rest}
use Rattle.courses.proofs.Steps.{serves, served_sum}
use Rattle.flows.specs.Views.{Fine}
use Rattle.flows.specs.declared.flow.Flow.{Ghosts}
use Rattle.stages.specs.ServerViews.{server_figures}
use Rattle.stages.specs.Servers.{fits}
use Rattle.stages.proofs.Opens.{first_few}

-- bounds that the tables answer are those of their settling length
module _ (e s : Curves) (r : Serving) where
  by_length : (o : Option ℕ) → Ok r ≡ if_settled e s o → r ≡ settled e s r.settling
  by_length None h = let z : ◌≡◌ {A = ℕ} 0 1 = cc in absurd (omega arith)
  by_length (Some d) h =
      let is : r ≡ settled e s d = cc in
      is ∙ ap (settled e s) (sym (ap (λ q. q.settling) is))

  by_frame : (b : Bool) → Ok r ≡ cond b (if_settled e s (settling_length e.frame e.most s.least)) (Err Frame) → r ≡ settled e s r.settling
  by_frame true h = by_length (settling_length e.frame e.most s.least) h
  by_frame false h = let z : ◌≡◌ {A = ℕ} 0 1 = cc in absurd (omega arith)

  pub settled_as : Ok r ≡ server_answer e s → r ≡ settled e s r.settling
  settled_as = by_frame (eqb e.frame s.frame)

pub moved : {m n l k a : ℕ → ℕ} → m ≡ n → l ≡ k → Keeps n k a → Keeps m l a
moved {m} {n} {l} {k} {a} em el K = subst (λ (f : ℕ → ℕ). Keeps f l a) (sym em) (subst (λ (f : ℕ → ℕ). Keeps n f a) (sym el) K)

module _ {X Y : Type 0} (E : Ghosts X) (S : Ghosts Y) (x : X) (y : Y) (b : ServerBounds) where
  pub open_fine : Ok (serving b) ≡ fits E S x y
      → Settles (E.pair x).most.frame (at (E.pair x).most) (at (S.pair y).least) b.settling
      → Shortest b.settling (at (E.pair x).most) (at (S.pair y).least) b.delay
      → Fine (record {
        arrived = E.course x;
        passed = served 0 (E.course x) (S.course y);
        rest = rest (S.course y) (served 0 (E.course x) (S.course y));
        waits = server_after 0 (E.course x) (S.course y);
        arriving = at (E.pair x).most 1;
        bounds = server_figures b;
      })
  unfolding served server_after
  open_fine fit settles shortest =
      let pe = E.pair x in
      let ps = S.pair y in
      let a = E.course x in
      let c = S.course y in
      let p = served 0 a c in
      let D = b.settling in
      let d = b.delay in
      let N = pe.most.frame in
      let K = E.keeps x in
      let L = S.keeps y in
      let is : serving b ≡ settled (curves pe) (curves ps) D = settled_as (curves pe) (curves ps) (serving b) fit in
      let hold : (T : ℕ) → Bounds T D (at pe.most) (at ps.least) _ _ a p = λ T. server_bounds D (K.to T) (L.to T) (serves T a c) settles.some settles.settled in
      record {
        account = λ t. omega arith;
        few = first_few pe a K;
        within = λ t. omega (arith, (hold t).waits t (omega arith), served_sum 0 a c t, ap (λ q. q.wait) is);
        keeps =
            moved (ap (λ q. q.passed.most) is) (ap (λ q. q.passed.least) is)
            (record { to = λ T. keeps_repeated N pe.most.some (server_passed D (K.to T) (L.to T) (serves T a c) settles.some settles.settled) });
        rests =
            moved (ap (λ q. q.rest.most) is) (ap (λ q. q.rest.least) is)
            (record { to = λ T. keeps_repeated N pe.most.some (server_rest D (K.to T) (L.to T) (serves T a c) settles.some settles.settled) });
        out = λ t. omega (arith, (hold (t + d)).out d shortest.enough t (omega arith));
      }
