-- A course from a later place on.
use Rattle.std.proofs.Common.{◌≡◌, ℕ, suc, ◌+◌, ◌%◌, ◌<◌, ◌≤◌, List, length, get_or, sym, ap, ◌∙◌, mod-lt, mod-eq_of_lt, zero-add, arith}
use mathlib.Core.Path.{fun_ext}
use native.Mathlib.Nat.{add-mod_left}
use Rattle.std.proofs.lemmas.List.{get_or_past}
use Rattle.tables.specs.Courses.{later, recorded, slotted}
use Rattle.flows.specs.States.{turning}
use Rattle.flows.specs.Views.{tail}

module _ (a : ℕ → ℕ) where
  pub later_none : later 0 a ≡ a
  later_none = fun_ext (λ t. ap a (zero-add t))

  pub later_more : (i : ℕ) → later (i + 1) a ≡ tail (later i a)
  later_more i = fun_ext (λ t. let e : i + 1 + t ≡ i + suc t = omega arith in ap a e)

  pub later_now : (i : ℕ) → a i ≡ later i a 0
  later_now i = let e : i ≡ i + 0 = omega arith in ap a e

-- nothing comes past the list
pub later_past : (xs : List ℕ) (i : ℕ) → length xs ≤ i → later i (recorded xs) ≡ (λ _. 0)
later_past xs i h = fun_ext (λ t. get_or_past xs (i + t) 0 (omega arith))

module _ (n : ℕ) (xs : List ℕ) where
  pub turning_now : (i : ℕ) → i < n → get_or xs i 0 ≡ turning n xs i 0
  turning_now i h = ap (recorded xs) (sym (mod-eq_of_lt h)) ∙ later_now (slotted n (recorded xs)) i

  -- the last place is followed by the first
  pub turning_round : (i : ℕ) → suc i ≡ n → turning n xs 0 ≡ tail (turning n xs i)
  turning_round i e = fun_ext each
    where
      each : (t : ℕ) → turning n xs 0 t ≡ turning n xs i (suc t)
      each t =
          let first : 0 + t ≡ t = omega arith in
          let whole : n + t ≡ i + suc t = omega arith in
          ap (slotted n (recorded xs)) first ∙ ap (recorded xs) (sym (add-mod_left n t)) ∙ ap (slotted n (recorded xs)) whole

  -- only the first n counts matter
  pub turning_starts : (ys : List ℕ) → 1 ≤ n → ((k : ℕ) → k < n → get_or ys k 0 ≡ get_or xs k 0) → turning n ys 0 ≡ slotted n (recorded xs)
  turning_starts ys some same = later_none (slotted n (recorded ys)) ∙ fun_ext (λ t. same (t % n) (mod-lt t some))

pub turning_closed : (xs : List ℕ) → get_or xs 0 0 ≡ 0 → turning 1 xs 0 ≡ (λ _. 0)
turning_closed xs e =
    later_none (slotted 1 (recorded xs))
    ∙ fun_ext (λ t. let low : t % 1 < 1 = mod-lt t (omega arith) in let first : t % 1 ≡ 0 = omega arith in ap (recorded xs) first ∙ e)
