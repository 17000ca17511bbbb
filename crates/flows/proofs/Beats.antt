-- A clock tick by tick.
use Rattle.std.proofs.Common.{◌≡◌, ℕ, zero, suc, ◌+◌, ◌-◌, ◌*◌, ◌/◌, ◌%◌, ◌<◌, ◌≤◌, cond, eqb, sym, refl, ap, ◌∙◌, ⊎_elim, mod-lt, mod-eq_of_lt, add-mul, one-mul, div-add-mod', arith}
use mathlib.Core.Path.{fun_ext}
use native.Mathlib.Nat.{add-mod_left, mod-add-mod, mod_self}
use Rattle.std.proofs.lemmas.Nat.{div-mul-add}
use Rattle.std.proofs.lemmas.Bool.{cases_eq, cond_both, cond-true, cond-false, eq-eqb, ne_eqb}
use Rattle.courses.specs.Bottoms.{clocked}
use Rattle.tables.specs.Bottoms.{clocked_most, up}
use Rattle.flows.specs.States.{clock}
use Rattle.flows.specs.Views.{tail}

-- b where the period p divides x
abbrev beats : ℕ → ℕ → ℕ → ℕ
beats p b x = cond (eqb (x % p) 0) b 0

-- one more is handed over where the period divides x
beat_is : (p x : ℕ) → 1 ≤ p → up p (suc x) - up p x ≡ beats p 1 x
beat_is p x some =
    let q = x / p in
    let r = x % p in
    let low : r < p = mod-lt x some in
    let parts : q * p + r ≡ x = div-add-mod' x p in
    let last : suc x + (p - 1) ≡ (q + 1) * p + r = omega (arith, add-mul q 1 p, one-mul p) in
    let next : up p (suc x) ≡ q + 1 = ap (λ n. n / p) last ∙ div-mul-add (q + 1) p r low in
    ⊎_elim
    (λ (e : r ≡ 0).
    let whole : x + (p - 1) ≡ q * p + (p - 1) = omega arith in
    let now : up p x ≡ q = ap (λ n. n / p) whole ∙ div-mul-add q p (p - 1) (omega arith) in
    omega (arith, cond-true {A = ℕ} (eqb r 0) 1 0 (eq-eqb r 0 e)))
    (λ (n : r ≡ 0 → ⊥).
    let more : 1 ≤ r = omega (arith, n) in
    let over : x + (p - 1) ≡ (q + 1) * p + (r - 1) = omega (arith, add-mul q 1 p, one-mul p) in
    let now : up p x ≡ q + 1 = ap (λ n. n / p) over ∙ div-mul-add (q + 1) p (r - 1) (omega arith) in
    omega (arith, cond-false {A = ℕ} (eqb r 0) 1 0 (ne_eqb r 0 n)))
    (cases_eq r 0)

module _ (p j : ℕ) (some : 1 ≤ p) where
  -- a clock from power-on
  pub clock_starts : clock p 1 (j % p) (up p (1 + j)) ≡ clocked p j
  unfolding clocked_most
  clock_starts = fun_ext each
    where
      each : (t : ℕ) → clock p 1 (j % p) (up p (1 + j)) t ≡ clocked p j t
      each zero = omega arith
      each (suc t) =
          let turned : j + suc t ≡ suc t + j = omega arith in
          let more : suc (suc t + j) ≡ suc (suc t) + j = omega arith in
          ap (λ n. cond (eqb n 0) 1 0) (mod-add-mod j p (suc t)) ∙ ap (beats p 1) turned ∙ sym (beat_is p (suc t + j) some) ∙ ap (λ n. up p n - up p (suc t + j)) more

module _ (p b x c : ℕ) where
  -- a tick in which the phase does not come round
  pub clock_goes : suc x < p → clock p b (x + 1) 0 ≡ tail (clock p b x c)
  clock_goes low = fun_ext each
    where
      each : (t : ℕ) → clock p b (x + 1) 0 t ≡ clock p b x c (suc t)
      each zero =
          let here : (x + suc 0) % p ≡ suc x = let e : x + suc 0 ≡ suc x = omega arith in ap (λ n. n % p) e ∙ mod-eq_of_lt low in
          sym (cond-false _ b 0 (ne_eqb ((x + suc 0) % p) 0 (λ z. absurd (omega arith))))
      each (suc t) = let e : x + 1 + suc t ≡ x + suc (suc t) = omega arith in ap (beats p b) e

  -- and one in which it does
  pub clock_beats : suc x ≡ p → clock p b 0 b ≡ tail (clock p b x c)
  clock_beats round = fun_ext each
    where
      each : (t : ℕ) → clock p b 0 b t ≡ clock p b x c (suc t)
      each zero =
          let e : x + suc 0 ≡ p = omega arith in
          sym (cond-true _ b 0 (eq-eqb ((x + suc 0) % p) 0 (ap (λ n. n % p) e ∙ mod_self p)))
      each (suc t) =
          let e : x + suc (suc t) ≡ p + suc t = omega arith in
          let z : 0 + suc t ≡ suc t = omega arith in
          ap (beats p b) z ∙ ap (λ n. cond (eqb n 0) b 0) (sym (add-mod_left p (suc t)) ∙ ap (λ n. n % p) (sym e))

-- a closed clock
pub clock_closed : clock 1 0 0 0 ≡ (λ _. 0)
clock_closed = fun_ext each
  where
    each : (t : ℕ) → clock 1 0 0 0 t ≡ 0
    each zero = refl
    each (suc t) = cond_both (eqb ((0 + suc t) % 1) 0) 0 0 (λ n. n ≡ 0) (λ _. refl) (λ _. refl)
