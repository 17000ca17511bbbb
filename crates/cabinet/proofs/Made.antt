-- What `array::from_fn` makes of a closure that keeps what it captured.
use Rattle.std.proofs.Common.{◌≡◌, ℕ, zero, suc, ◌+◌, ◌<◌, ◌≤◌, List, get_or, sym, subst, ⊎_elim, eq-or-lt_of_le, arith}
use Rattle.std.specs.Array.{IsFromFnResultFrom, IsFromFnResult}
use Rattle.std.specs.Fn.{Called}
use denote.Param.Members.{Mut}

-- where each call at j gives some r with R j r, so does each place
module _ {F A : Type 0} (g : Mut F (ℕ × Unit {0}) A) (f : F) (ys : List A) (d : A) (R : ℕ → A → Type 0) where
  made_from : (i n : ℕ) → ((j : ℕ) (r : A) (q : F) → j < i + n → Called g f (j, tt) r q → (q ≡ f) × R j r) → IsFromFnResultFrom g f ys i n
      → (k : ℕ) → i ≤ k → k < i + n → R k (get_or ys k d)
  made_from i zero gives made k low high = absurd (omega arith)
  made_from i (suc n) gives (q, y, is, called, rest) k low high =
      let turn = gives i y q (omega arith) called in
      ⊎_elim
      (λ (e : i ≡ k). subst (λ j. R j (get_or ys j d)) e (subst (R i) (sym (is.1 d)) turn.1))
      (λ (l : i < k).
      made_from (i + 1) n (λ j r p b. gives j r p (omega arith)) (subst (λ p. IsFromFnResultFrom g p ys (i + 1) n) turn.0 rest) k (omega arith) (omega arith))
      (eq-or-lt_of_le low)

  pub made_each : {n : ℕ} → IsFromFnResult g f ys n → ((j : ℕ) (r : A) (q : F) → j < n → Called g f (j, tt) r q → (q ≡ f) × R j r) → (k : ℕ) → k < n → R k (get_or ys k d)
  made_each {n} made gives k b = made_from 0 n (λ j r q l. gives j r q (omega arith)) made.each k (omega arith) (omega arith)
