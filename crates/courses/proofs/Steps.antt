-- The stages tick by tick keep the rules, and go on from a state that they reached.
use Rattle.std.proofs.Common.{◌≡◌, ℕ, zero, suc, ◌+◌, ◌-◌, ◌<◌, ◌≤◌, List, take, replicate, sum as total, refl, ap, ◌∙◌, arith, take-take}
use mathlib.Core.Path.{fun_ext}
use Rattle.std.proofs.lemmas.List.Sums.{sum_by-cons}
use Rattle.tables.specs.Limits.{longest}
use Rattle.tables.proofs.Ranges.{smallest_same}
use Rattle.courses.specs.Courses.{SameTo, ServesTo, ShapesTo, lately}
use Rattle.courses.specs.Steps.{after, serve, server_next, server_after, served, Shaping, empty, shape, shaper_next, shaper_after, shaped}
use Rattle.tables.proofs.Sums.{sum_rises}
use Rattle.tables.specs.Courses.{later, sum}

-- n ticks and then t
after_later : {X : Type 0} (next : ℕ → X → X) (x : X) (n t : ℕ) → after (later n next) (after next x n) t ≡ after next x (n + t)
after_later next x n zero = let z : n ≡ n + 0 = omega arith in ap (after next x) z
after_later next x n (suc t) = let z : suc (n + t) ≡ n + suc t = omega arith in ap (next (n + t)) (after_later next x n t) ∙ ap (after next x) z

-- the same steps up to T
after_same : {X : Type 0} (T : ℕ) (next step : ℕ → X → X) (x : X) → ((t : ℕ) → t < T → next t ≡ step t) → (t : ℕ) → t ≤ T → after next x t ≡ after step x t
after_same T next step x same zero l = refl
after_same T next step x same (suc t) l = λ i. same t l i (after_same T next step x same t (omega arith) i)

module _ (w : ℕ) (a c : ℕ → ℕ) where
  -- what passed and what waits make up what waited and arrived
  pub served_sum : (t : ℕ) → sum (served w a c) t + server_after w a c t ≡ w + sum a t
  unfolding served server_after
  served_sum zero = omega arith
  served_sum (suc t) = omega (arith, served_sum t)

  pub server_after_later : (n : ℕ) → server_after (server_after w a c n) (later n a) (later n c) ≡ later n (server_after w a c)
  unfolding server_after
  server_after_later n = fun_ext (λ t. after_later (λ t v. server_next v (a t) (c t)) w n t)

  pub served_later : (n : ℕ) → served (server_after w a c n) (later n a) (later n c) ≡ later n (served w a c)
  unfolding served
  served_later n = fun_ext (λ t. ap (λ (f : ℕ → ℕ). serve (f t) (a (n + t)) (c (n + t))) (server_after_later n))

pub served_same : {T : ℕ} {a b c d : ℕ → ℕ} (w : ℕ) → SameTo T a b → SameTo T c d → SameTo T (served w a c) (served w b d)
unfolding served server_after
served_same {T} {a} {b} {c} {d} w A C = record {
  each = λ t l i. serve
      (after_same T (λ t v. server_next v (a t) (c t)) (λ t v. server_next v (b t) (d t)) w (λ t l i v. server_next v (A.each t l i) (C.each t l i)) t (omega arith) i)
      (A.each t l i) (C.each t l i);
}

pub serves : (T : ℕ) (a c : ℕ → ℕ) → ServesTo T a c (served 0 a c)
unfolding served
serves T a c = record { rule = λ t _. omega (arith, served_sum 0 a c t) }

-- the rule leaves no choice
pub serves_only : {T : ℕ} {a c p q : ℕ → ℕ} → ServesTo T a c p → ServesTo T a c q → SameTo T p q
serves_only {T} {a} {c} {p} {q} P Q = record { each = λ t l. omega (arith, P.rule t l, Q.rule t l, sums t (omega arith)) }
  where
    sums : (t : ℕ) → t ≤ T → sum p t ≡ sum q t
    sums zero l = refl
    sums (suc t) l = omega (arith, P.rule t l, Q.rule t l, sums t (omega arith))

module _ (N : ℕ) (h : ℕ → ℕ) (s : Shaping) (a : ℕ → ℕ) where
  pub shaped_sum : (t : ℕ) → sum (shaped N h s a) t + (shaper_after N h s a t).backlog ≡ s.backlog + sum a t
  unfolding shaped shaper_after
  shaped_sum zero = omega arith
  shaped_sum (suc t) = omega (arith, shaped_sum t)

  pub shaper_after_later : (n : ℕ) → shaper_after N h (shaper_after N h s a n) (later n a) ≡ later n (shaper_after N h s a)
  unfolding shaper_after
  shaper_after_later n = fun_ext (λ t. after_later (λ t r. shaper_next N h r (a t)) s n t)

  pub shaped_later : (n : ℕ) → shaped N h (shaper_after N h s a n) (later n a) ≡ later n (shaped N h s a)
  unfolding shaped
  shaped_later n = fun_ext (λ t. ap (λ (f : ℕ → Shaping). shape N h (f t) (a (n + t))) (shaper_after_later n))

module _ (N : ℕ) (h a : ℕ → ℕ) where
  none_past : (n k : ℕ) → total (take k (replicate n 0)) ≡ 0
  none_past n zero = refl
  none_past zero (suc k) = refl
  none_past (suc n) (suc k) = sum_by-cons (λ x. x) 0 (take k (replicate n 0)) ∙ omega (arith, none_past n k)

  -- from power-on, the state has what passed lately
  pub past_lately : (t k : ℕ) → k ≤ longest → total (take k (shaper_after N h empty a t).past) ≡ lately (shaped N h empty a) t k
  unfolding shaped shaper_after
  past_lately zero k l = let z : 0 - k ≡ 0 = omega arith in omega (arith, none_past longest k, ap (sum (shaped N h empty a)) z)
  past_lately (suc t) zero l = let z : suc t - 0 ≡ suc t = omega arith in omega (arith, ap (sum (shaped N h empty a)) z)
  past_lately (suc t) (suc k) l =
      let p : ℕ → ℕ = shaped N h empty a in
      let before : List ℕ = (shaper_after N h empty a t).past in
      let d : suc t - suc k ≡ t - k = omega arith in
      omega (
        arith,
        past_lately t k (omega arith),
        ap (sum p) d,
        sum_rises p (t - k) t (omega arith),
        ap total (take-take k (longest - 1) before (omega arith)),
        sum_by-cons (λ x. x) (p t) (take k (take (longest - 1) before)),
      )

  pub shapes : N ≤ longest → (T : ℕ) → ShapesTo T N h a (shaped N h empty a)
  unfolding shaped
  shapes few T = record {
    rule = λ t _.
        omega (
          arith,
          shaped_sum N h empty a t,
          smallest_same (N - 1) (λ k. h (k + 1) - total (take k (shaper_after N h empty a t).past)) (λ k. h (k + 1) - lately (shaped N h empty a) t k)
              (λ k l. omega (arith, past_lately t k (omega arith))),
        );
  }

pub shaped_same : {T : ℕ} {a b : ℕ → ℕ} (N : ℕ) (h : ℕ → ℕ) (s : Shaping) → SameTo T a b → SameTo T (shaped N h s a) (shaped N h s b)
unfolding shaped shaper_after
shaped_same {T} {a} {b} N h s A = record {
  each = λ t l i. shape N h
      (after_same T (λ t r. shaper_next N h r (a t)) (λ t r. shaper_next N h r (b t)) s (λ t l i r. shaper_next N h r (A.each t l i)) t (omega arith) i)
      (A.each t l i);
}

pub shapes_only : {T N : ℕ} {h a p q : ℕ → ℕ} → ShapesTo T N h a p → ShapesTo T N h a q → SameTo T p q
shapes_only {T} {N} {h} {a} {p} {q} P Q = record { each = λ t l. each t l (λ s g. sums t s g (omega arith)) }
  where
    each : (t : ℕ) → t < T → ((s : ℕ) → s ≤ t → sum p s ≡ sum q s) → p t ≡ q t
    each t l same =
        omega (
          arith,
          P.rule t l,
          Q.rule t l,
          same t (omega arith),
          smallest_same (N - 1) (λ k. h (k + 1) - lately p t k) (λ k. h (k + 1) - lately q t k) (λ k g. omega (arith, same t (omega arith), same (t - k) (omega arith))),
        )

    sums : (n t : ℕ) → t ≤ n → n ≤ T → sum p t ≡ sum q t
    sums n zero g l = refl
    sums zero (suc t) g l = absurd (omega arith)
    sums (suc n) (suc t) g l = omega (arith, sums n t (omega arith) (omega arith), each t (omega arith) (λ s b. sums n s (omega arith) (omega arith)))
