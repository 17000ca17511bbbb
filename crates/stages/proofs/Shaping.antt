-- What a tick of a shaper does, and that a shaper whose bounds are those of the tables keeps them.
use Rattle.std.proofs.Common.{◌≡◌, ℕ, ◌+◌, ◌-◌, ◌≤◌, min, Bool, true, false, cond, eqb, leb, List, ◌∷◌, map, take, Some, None, Ok, Err, Option, sum as total, sym, refl, ap, ◌∙◌, subst, arith}
use Rattle.std.proofs.lemmas.Bool.{leb-true, eqb-true}
use Rattle.std.specs.Option.{unwrap_or}
use Rattle.tables.specs.Bounds as bounds
use Rattle.tables.specs.Bounds.{shaping, shaped_pair, shaper_answer}
use Rattle.tables.specs.Curves.{Graph, Shortest, convolved, excess, growth, repeated, subadditive}
use Rattle.tables.specs.Ranges.{smallest}
use Rattle.tables.specs.Tables.{Curve, Curves, at, curve, curves, entry}
use Rattle.tables.specs.declared.bounds.ShaperBounds.{ShaperBounds}
use Rattle.tables.specs.declared.refusal.Refusal.TheVariants.{Frame, Shape, Overload}
use Rattle.tables.specs.declared.table.Table.{Table}
use Rattle.tables.proofs.Tables.{at_le, at_rises, at_within, at_zero, repeated_same}
use Rattle.courses.specs.Claims.{Bounds}
use Rattle.courses.specs.Steps.{Shaping, empty, shape, shaper_next, shaper_after, shaped}
use Rattle.courses.proofs.Frames.{keeps_repeated}
use Rattle.courses.proofs.Shaping.{shaper_bounds, shaper_passed}
use Rattle.courses.proofs.Steps.{shapes, shaped_sum, shaped_later, shaper_after_later}
use Rattle.flows.specs.Views.{Fine, All, tail, next_view}
use Rattle.flows.specs.declared.flow.Flow.{Ghosts}
use Rattle.flows.proofs.Views.{later_tail, all_next}
use Rattle.stages.specs.ShaperViews.{shaping_state, shaping_view, shaping_below, shaping_views, shaper_figures}
use Rattle.stages.specs.Shapers.{shaper_view, shaper_below, shaper_fits, ShaperTicked}
use Rattle.stages.specs.declared.shaper.Shaper.{Shaper}
use Rattle.stages.proofs.Fitting.{moved}
use Rattle.stages.proofs.Opens.{Drawn, first_few}

-- the courses of a shaper one tick on
module _ (N : ℕ) (h : ℕ → ℕ) (s : Shaping) (a : ℕ → ℕ) where
  after_one : shaper_after N h s a 1 ≡ shaper_next N h s (a 0)
  unfolding shaper_after
  after_one = refl

  pub shaped_tail : shaped N h (shaper_next N h s (a 0)) (tail a) ≡ tail (shaped N h s a)
  shaped_tail = (λ i. shaped N h (sym after_one i) (sym (later_tail a) i)) ∙ shaped_later N h s a 1 ∙ later_tail (shaped N h s a)

  pub after_tail : shaper_after N h (shaper_next N h s (a 0)) (tail a) ≡ tail (shaper_after N h s a)
  after_tail = (λ i. shaper_after N h (sym after_one i) (sym (later_tail a) i)) ∙ shaper_after_later N h s a 1 ∙ later_tail (shaper_after N h s a)

-- a table read at every length is the graph of its curve
pub at_graph : (t : Table) → Graph t.frame (at t)
at_graph t = record {
  some = t.some;
  few = t.few;
  starts = at_zero t;
  rises = λ k _. at_rises t k;
  limited = at_le t t.frame (omega arith);
}

pub at_repeats : (t : Table) → repeated t.frame (at t) ≡ at t
unfolding at
at_repeats t = repeated_same t.frame (at t) (entry t) t.some (at_within t)

-- bounds that the tables answer: the shaping rule holds, the table suffices, and the bounds are the formulas
pub record Fitted (e : Curves) (h : Curve) (r : bounds.Shaping) : Type 0 where
  pub frame : e.frame ≡ h.frame
  pub rule : subadditive h.frame h.count ≡ true
  pub enough : e.most e.frame ≤ h.count e.frame
  pub is : r ≡ bounds.shaped e h

pub fitted : (e : Curves) (h : Curve) (r : bounds.Shaping) → Ok r ≡ shaper_answer e h → Fitted e h r
fitted e h r = by (eqb e.frame h.frame) (subadditive h.frame h.count) (leb (e.most e.frame) (h.count e.frame)) refl refl refl
  where
    by : (same rule enough : Bool) → eqb e.frame h.frame ≡ same → subadditive h.frame h.count ≡ rule → leb (e.most e.frame) (h.count e.frame) ≡ enough
        → Ok r ≡ cond same (cond rule (cond enough (Ok (bounds.shaped e h)) (Err Overload)) (Err Shape)) (Err Frame) → Fitted e h r
    by true true true s u l fit = record { frame = eqb-true e.frame h.frame s; rule = u; enough = leb-true (e.most e.frame) (h.count e.frame) l; is = cc }
    by true true false s u l fit = let z : ◌≡◌ {A = ℕ} 0 1 = cc in absurd (omega arith)
    by true false enough s u l fit = let z : ◌≡◌ {A = ℕ} 0 1 = cc in absurd (omega arith)
    by false rule enough s u l fit = let z : ◌≡◌ {A = ℕ} 0 1 = cc in absurd (omega arith)

module _ {X : Type 0} (E : Ghosts X) where
  pub shaper_fine : (x : X) (h : Table) (b : ShaperBounds) → Ok (shaping b) ≡ shaper_fits E x h
      → Shortest (E.pair x).most.frame (at (E.pair x).most) (at h) b.delay
      → Fine (record {
        arrived = E.course x;
        passed = shaped h.frame (at h) empty (E.course x);
        rest = λ _. 0;
        waits = λ t. (shaper_after h.frame (at h) empty (E.course x) t).backlog;
        arriving = at (E.pair x).most 1;
        bounds = shaper_figures b;
      })
  unfolding shaped shaper_after
  shaper_fine x h b fit shortest =
      let pe = E.pair x in
      let a = E.course x in
      let N = h.frame in
      let p = shaped N (at h) empty a in
      let K = E.keeps x in
      let F = fitted (curves pe) (curve h) (shaping b) fit in
      let again = at_repeats h in
      let rule : subadditive N (repeated N (at h)) ≡ true = ap (subadditive N) again ∙ F.rule in
      let enough : at pe.most N ≤ repeated N (at h) N = omega (arith, F.enough, ap (at pe.most) F.frame, ap (at h) F.frame, ap (λ (f : ℕ → ℕ). f N) again) in
      let hold : (T : ℕ) → Bounds T N (at pe.most) (repeated N (at h)) _ _ a p = λ T. shaper_bounds (at_graph h) rule (K.to T) (shapes N (at h) a h.few T) enough in
      let wait : b.wait ≡ excess (at pe.most) (repeated N (at h)) N = ap (λ q. q.wait) F.is ∙ (λ i. excess (at pe.most) (sym again i) (F.frame i)) in
      record {
        account = λ t. omega arith;
        few = first_few pe a K;
        within = λ t. omega (arith, (hold t).waits t (omega arith), shaped_sum N (at h) empty a t, wait);
        keeps =
            moved
            (ap (λ q. q.passed.most) F.is ∙ (λ i. repeated (F.frame i) (convolved (at pe.most) (sym again i))))
            (ap (λ q. q.passed.least) F.is ∙ (λ i. repeated (F.frame i) (convolved (at pe.least) (growth (F.frame i - 1) (sym again i)))))
            (record { to = λ T. keeps_repeated N h.some (shaper_passed (at_graph h) rule (K.to T) (shapes N (at h) a h.few T) enough) });
        rests = tt;
        out = λ t.
            let d = b.delay in
            omega (arith, (hold (t + d)).out d (λ k l. omega (arith, shortest.enough k (omega (arith, F.frame)), ap (λ (f : ℕ → ℕ). f (k + d)) again)) t (omega arith));
      }

  -- an open shaper with w waiting, one tick on: a came, and p passed
  module _ (x x' : X) (h : Table) (b : ShaperBounds) (past : List ℕ) (w a p : ℕ) (de : Drawn E x a x')
      (hp : p ≡ min (w + a) (smallest (h.frame - 1) (λ k. at h (k + 1) - total (take k past)))) where
    abbrev now : Shaping
    now = shaping_state (Some w) past

    same : p ≡ shape h.frame (at h) now (E.course x 0)
    same = hp ∙ ap (λ n. min (w + n) (smallest (h.frame - 1) (λ k. at h (k + 1) - total (take k past)))) de.count

    then : shaping_state (Some ((w + a) - p)) (p ∷ take 63 past) ≡ shaper_next h.frame (at h) now (E.course x 0)
    then = λ i. record { backlog = (w + de.count i) - same i; past = same i ∷ take 63 past }

    pub next : shaping_view E (Some ((w + a) - p)) (p ∷ take 63 past) x' h b ≡ next_view (shaping_view E (Some w) past x h b)
    next =
        let f : ℕ → ℕ = E.course x in
        let backlogs : (ℕ → Shaping) → ℕ → ℕ = λ g n. (g n).backlog in
        λ i. record {
          arrived = de.next i;
          passed = ((λ j. shaped h.frame (at h) (then j) (de.next j)) ∙ shaped_tail h.frame (at h) now f) i;
          rest = λ _. 0;
          waits = ((λ j. backlogs (shaper_after h.frame (at h) (then j) (de.next j))) ∙ ap backlogs (after_tail h.frame (at h) now f)) i;
          arriving = at (de.same i).most 1;
          bounds = shaper_figures b;
        }

    pub next_fine : All Fine (shaping_views E (Some w) past x h b) → All Fine (shaping_views E (Some ((w + a) - p)) (p ∷ take 63 past) x' h b)
    next_fine f = subst (All Fine) (λ i. sym next i ∷ sym de.views i) (all_next (shaping_views E (Some w) past x h b) f)

    pub first_passed : p ≡ (shaping_view E (Some w) past x h b).passed 0
    unfolding shaped shaper_after
    first_passed = same

  pub ticked : (s t : Shaper X E) (w a p : ℕ) → s.waiting ≡ Some w → t.waiting ≡ Some ((w + a) - p) → t.past ≡ p ∷ take 63 s.past
      → Drawn E s.events a t.events → p ≡ min (w + a) (smallest (s.shaping.frame - 1) (λ k. at s.shaping (k + 1) - total (take k s.past)))
      → t.shaping ≡ s.shaping → t.bounds ≡ s.bounds → ShaperTicked E s t p
  ticked s t w a p is it hq de hp hh hb =
      let x = s.events in
      let h = s.shaping in
      let b = s.bounds in
      let top : shaper_view E t ≡ next_view (shaper_view E s) =
      (λ i. shaping_view E (it i) (hq i) t.events (hh i) (hb i)) ∙ next x t.events h b s.past w a p de hp ∙ ap (λ o. next_view (shaping_view E o s.past x h b)) (sym is) in
      let below : shaper_below E t ≡ map next_view (shaper_below E s) =
      ap (λ o. shaping_below E o t.events) it ∙ de.views ∙ ap (λ o. map next_view (shaping_below E o x)) (sym is) in
      record {
        passed = subst (λ o. p ≡ (shaping_view E o s.past x h b).passed 0) (sym is) (first_passed x t.events h b s.past w a p de hp);
        next = ap (λ v. v.passed) top;
        same = hb;
        top = top;
        views = λ i. top i ∷ below i;
      }

  -- what an open shaper has waiting is within its wait
  pub held : (s : Shaper X E) (w : ℕ) → s.waiting ≡ Some w → w ≤ s.bounds.wait
  unfolding shaper_after
  held s w is = subst (λ o. unwrap_or o 0 ≤ s.bounds.wait) is (waits s.waiting refl)
    where
      waits : (o : Option ℕ) → s.waiting ≡ o → unwrap_or o 0 ≤ s.bounds.wait
      waits None e = omega arith
      waits (Some v) e = omega (arith, s.fine.0.within 0, ap (λ o. (shaping_view E o s.past s.events s.shaping s.bounds).waits 0) e)
