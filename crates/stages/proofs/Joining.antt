-- What a tick of a join does, and that it keeps its bounds.
use Rattle.std.proofs.Common.{◌≡◌, ℕ, ◌+◌, Bool, true, false, cond, eqb, leb, ◌∷◌, ◌++◌, map, Ok, Err, sym, refl, ap, ◌∙◌, subst, arith}
use Rattle.std.proofs.lemmas.List.{map-append}
use Rattle.tables.specs.Bounds.{joined_pair, join_answer}
use Rattle.tables.specs.Courses.{sum}
use Rattle.tables.specs.Limits.{limit}
use Rattle.tables.specs.Tables.{Curves, at, curves}
use Rattle.tables.specs.declared.pair.Pair.{Pair}
use Rattle.tables.specs.declared.refusal.Refusal.TheVariants.{Frame, Crowd}
use Rattle.courses.specs.Courses.{plus}
use Rattle.courses.proofs.Frames.{keeps_repeated}
use Rattle.courses.proofs.Sums.{keeps_plus}
use Rattle.flows.specs.Views.{Fine, All, KeepsPair, tail, next_view}
use Rattle.flows.specs.declared.flow.Flow.{Ghosts}
use Rattle.flows.proofs.Views.{all_next}
use Rattle.stages.specs.JoinViews.{joining_view, joining_below, joining_views, join_figures}
use Rattle.stages.specs.Joins.{join_view, join_below, join_fits, JoinTicked}
use Rattle.stages.specs.declared.join.Join.{Join}
use Rattle.stages.proofs.Fitting.{moved}
use Rattle.stages.proofs.Opens.{Drawn, first_few}

-- the pair that the tables answer is the sum
pub joined_as : (a b c : Curves) → Ok c ≡ join_answer a b → c ≡ joined_pair a b
joined_as a b c = by (eqb a.frame b.frame) (leb (a.most a.frame + b.most a.frame) limit)
  where
    by : (same few : Bool) → Ok c ≡ cond same (cond few (Ok (joined_pair a b)) (Err Crowd)) (Err Frame) → c ≡ joined_pair a b
    by true true h = cc
    by true false h = let z : ◌≡◌ {A = ℕ} 0 1 = cc in absurd (omega arith)
    by false few h = let z : ◌≡◌ {A = ℕ} 0 1 = cc in absurd (omega arith)

module _ {X Y : Type 0} (A : Ghosts X) (B : Ghosts Y) where
  pub join_fine : (x : X) (y : Y) (p : Pair) → Ok (curves p) ≡ join_fits A B x y
      → Fine (record {
        arrived = plus (A.course x) (B.course y);
        passed = plus (A.course x) (B.course y);
        rest = λ _. 0;
        waits = λ _. 0;
        arriving = at p.most 1;
        bounds = join_figures p;
      })
  join_fine x y p fit =
      let pa = A.pair x in
      let a = plus (A.course x) (B.course y) in
      let is : curves p ≡ joined_pair (curves pa) (curves (B.pair y)) = joined_as (curves pa) (curves (B.pair y)) (curves p) fit in
      let kept : KeepsPair p a =
      moved (ap (λ q. q.most) is) (ap (λ q. q.least) is)
      (record { to = λ T. keeps_repeated pa.most.frame pa.most.some (keeps_plus ((A.keeps x).to T) ((B.keeps y).to T)) }) in
      record {
        account = λ t. refl;
        few = first_few p a kept;
        within = λ t. omega arith;
        keeps = kept;
        rests = tt;
        out = λ t. let e : t + 0 ≡ t = omega arith in omega (arith, ap (sum a) e);
      }

  -- an open join one tick on
  module _ (x x' : X) (y y' : Y) (p : Pair) (a b : ℕ) (da : Drawn A x a x') (db : Drawn B y b y') where
    pub next : joining_view A B true x' y' p ≡ next_view (joining_view A B true x y p)
    next =
        let both : plus (A.course x') (B.course y') ≡ tail (plus (A.course x) (B.course y)) = λ i. plus (da.next i) (db.next i) in
        λ i. record {
          arrived = both i;
          passed = both i;
          rest = λ _. 0;
          waits = λ _. 0;
          arriving = at p.most 1;
          bounds = join_figures p;
        }

    pub next_below : joining_below A B true x' y' ≡ map next_view (joining_below A B true x y)
    next_below = (λ i. da.views i ++ db.views i) ∙ sym (map-append next_view (A.views x) (B.views y))

    pub next_fine : All Fine (joining_views A B true x y p) → All Fine (joining_views A B true x' y' p)
    next_fine h = subst (All Fine) (λ i. sym next i ∷ sym next_below i) (all_next (joining_views A B true x y p) h)

  pub ticked : (s t : Join X Y A B) (a b : ℕ) → s.is_open ≡ true → t.is_open ≡ true
      → Drawn A s.left a t.left → Drawn B s.right b t.right → t.pair ≡ s.pair
      → JoinTicked A B s t (a + b)
  ticked s t a b is it da db hp =
      let x = s.left in
      let y = s.right in
      let top : join_view A B t ≡ next_view (join_view A B s) =
      (λ i. joining_view A B (it i) t.left t.right (hp i)) ∙ next x t.left y t.right s.pair a b da db ∙ ap (λ o. next_view (joining_view A B o x y s.pair)) (sym is) in
      let below : join_below A B t ≡ map next_view (join_below A B s) =
      ap (λ o. joining_below A B o t.left t.right) it ∙ next_below x t.left y t.right s.pair a b da db ∙ ap (λ o. map next_view (joining_below A B o x y)) (sym is) in
      record {
        passed = subst (λ o. a + b ≡ (joining_view A B o x y s.pair).passed 0) (sym is) (omega (arith, da.count, db.count));
        next = ap (λ v. v.passed) top;
        same = hp;
        top = top;
        views = λ i. top i ∷ below i;
      }
