-- What a tick of a server does, from what the two draws below it do.
use Rattle.std.proofs.Common.{◌≡◌, ℕ, ◌+◌, ◌-◌, ◌≤◌, min, Some, None, Option, ◌∷◌, ◌++◌, map, sym, refl, ap, ◌∙◌, subst, arith}
use Rattle.std.specs.Option.{unwrap_or}
use Rattle.std.proofs.lemmas.List.{map-append}
use Rattle.tables.specs.Tables.{at}
use Rattle.courses.specs.Courses.{rest}
use Rattle.courses.specs.Steps.{server_next, server_after, served}
use Rattle.courses.proofs.Steps.{served_later, server_after_later}
use Rattle.flows.specs.Views.{Fine, All, tail, next_view}
use Rattle.flows.specs.declared.flow.Flow.{Ghosts}
use Rattle.flows.proofs.Views.{later_tail, all_next}
use Rattle.tables.specs.declared.bounds.ServerBounds.{ServerBounds}
use Rattle.stages.specs.ServerViews.{serving_view, serving_below, serving_views, server_figures}
use Rattle.stages.specs.Servers.{server_view, server_below, ServerTicked}
use Rattle.stages.specs.declared.server.Server.{Server}
use Rattle.stages.proofs.Opens.{Drawn}

-- the courses of a server one tick on
module _ (w : ℕ) (a c : ℕ → ℕ) where
  after_one : server_after w a c 1 ≡ server_next w (a 0) (c 0)
  unfolding server_after
  after_one = refl

  pub served_tail : served (server_next w (a 0) (c 0)) (tail a) (tail c) ≡ tail (served w a c)
  served_tail = (λ i. served (sym after_one i) (sym (later_tail a) i) (sym (later_tail c) i)) ∙ served_later w a c 1 ∙ later_tail (served w a c)

  pub after_tail : server_after (server_next w (a 0) (c 0)) (tail a) (tail c) ≡ tail (server_after w a c)
  after_tail = (λ i. server_after (sym after_one i) (sym (later_tail a) i) (sym (later_tail c) i)) ∙ server_after_later w a c 1 ∙ later_tail (server_after w a c)

module _ {X Y : Type 0} (E : Ghosts X) (S : Ghosts Y) where
  -- an open server with w waiting, one tick on: a came, and p passed
  module _ (x x' : X) (y y' : Y) (b : ServerBounds) (w a c p : ℕ) (de : Drawn E x a x') (ds : Drawn S y c y') (hp : p ≡ min (w + a) c) where
    pub next : serving_view E S (Some ((w + a) - p)) x' y' b ≡ next_view (serving_view E S (Some w) x y b)
    next =
        let f : ℕ → ℕ = E.course x in
        let k : ℕ → ℕ = S.course y in
        let ew : (w + a) - p ≡ server_next w (f 0) (k 0) = omega (arith, de.count, ds.count, hp) in
        let np : served ((w + a) - p) (E.course x') (S.course y') ≡ tail (served w f k) = (λ i. served (ew i) (de.next i) (ds.next i)) ∙ served_tail w f k in
        λ i. record {
          arrived = de.next i;
          passed = np i;
          rest = rest (ds.next i) (np i);
          waits = ((λ j. server_after (ew j) (de.next j) (ds.next j)) ∙ after_tail w f k) i;
          arriving = at (de.same i).most 1;
          bounds = server_figures b;
        }

    pub next_below : serving_below E S (Some ((w + a) - p)) x' y' ≡ map next_view (serving_below E S (Some w) x y)
    next_below = (λ i. de.views i ++ ds.views i) ∙ sym (map-append next_view (E.views x) (S.views y))

    pub next_fine : All Fine (serving_views E S (Some w) x y b) → All Fine (serving_views E S (Some ((w + a) - p)) x' y' b)
    next_fine h = subst (All Fine) (λ i. sym next i ∷ sym next_below i) (all_next (serving_views E S (Some w) x y b) h)

  pub ticked : (s t : Server X Y E S) (w a c p : ℕ) → s.waiting ≡ Some w → t.waiting ≡ Some ((w + a) - p)
      → Drawn E s.events a t.events → Drawn S s.service c t.service → p ≡ min (w + a) c → t.bounds ≡ s.bounds
      → ServerTicked E S s t p (c - p)
  unfolding served server_after
  ticked s t w a c p is it de ds hp hb =
      let x = s.events in
      let y = s.service in
      let f : ℕ → ℕ = E.course x in
      let k : ℕ → ℕ = S.course y in
      let top : server_view E S t ≡ next_view (server_view E S s) =
      (λ i. serving_view E S (it i) t.events t.service (hb i)) ∙ next x t.events y t.service s.bounds w a c p de ds hp ∙ ap (λ o. next_view (serving_view E S o x y s.bounds)) (sym is) in
      let below : server_below E S t ≡ map next_view (server_below E S s) =
      ap (λ o. serving_below E S o t.events t.service) it ∙ next_below x t.events y t.service s.bounds w a c p de ds hp ∙ ap (λ o. map next_view (serving_below E S o x y)) (sym is) in
      record {
        passed = subst (λ o. p ≡ (serving_view E S o x y s.bounds).passed 0) (sym is) (omega (arith, de.count, ds.count, hp));
        rest = subst (λ o. c - p ≡ (serving_view E S o x y s.bounds).rest 0) (sym is) (omega (arith, de.count, ds.count, hp));
        next = ap (λ v. v.passed) top;
        next_rest = ap (λ v. v.rest) top;
        same = hb;
        top = top;
        views = λ i. top i ∷ below i;
      }

  -- what an open server has waiting is within its wait
  pub held : (s : Server X Y E S) (w : ℕ) → s.waiting ≡ Some w → w ≤ s.bounds.wait
  unfolding server_after
  held s w is = subst (λ o. unwrap_or o 0 ≤ s.bounds.wait) is (waits s.waiting refl)
    where
      waits : (o : Option ℕ) → s.waiting ≡ o → unwrap_or o 0 ≤ s.bounds.wait
      waits None e = omega arith
      waits (Some v) e = omega (arith, s.fine.0.within 0, ap (λ o. (serving_view E S o s.events s.service s.bounds).waits 0) e)
