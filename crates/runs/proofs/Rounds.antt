-- What a ring holds as it turns.
use Rattle.std.proofs.Common.{◌≡◌, ℕ, zero, suc, ◌+◌, ◌-◌, ◌<◌, ◌≤◌, List, [], ◌∷◌, ◌++◌, length, get_or, take, drop, set, Some, None, sym, refl, ap, ◌∙◌, inl, inr, append_assoc, arith, length-append, length-drop, length-set, rules}
use Rattle.std.proofs.lemmas.Bool.{cases_lt}
use Rattle.std.proofs.lemmas.List.{take-append-le, drop_more, drop_all, drop-set-add, take_more_set, drop-set-lt, same_lists, places, length-take, length-take-le, take_more, drop-drop, take-append-drop, take-take, drop-take, append-nil, get_or-take, get_or-drop, get_or_append_left, get_or-append_right}
use Rattle.std.proofs.lemmas.Slice.{take-put_mid, drop-put_mid}
use borrow.Rule.Slice.PartMut.{put_mid}
use Rattle.runs.specs.Held.{held_in, nth}

-- the first n + k of xs ++ ys, where xs has n
pub take_past : {X : Type 0} (xs ys : List X) (n k : ℕ) → length xs ≡ n → take (n + k) (xs ++ ys) ≡ xs ++ take k ys
take_past xs ys n k e = same_lists _ _ (search (rules, places)) (λ j d h. grind (arith, places))

-- a message into the slot after the last, which comes before the end of the slots
pub push_near : {X : Type 0} (s : List X) (h n : ℕ) (m : X) → h ≤ length s → n < length s - h → held_in (set s (h + n) m) h (n + 1) ≡ held_in s h n ++ m ∷ []
push_near s h n m hl nl =
    let a : n + 1 ≤ length (set (drop h s) n m) = simp (length-set, length-drop) (omega arith) in
    let b : n < length (drop h s) = simp length-drop (omega arith) in
    let b' : n ≤ length (drop h s) = simp length-drop (omega arith) in
    let e₁ = drop-set-add h s n m in
    let e₂ = take-append-le (n + 1) (set (drop h s) n m) (set s (h + n) m) a in
    let e₃ = take_more_set (drop h s) n m b in
    let e₄ = take-append-le n (drop h s) s b' in
    cc

-- one that goes round to the first slots
pub push_round : {X : Type 0} (s : List X) (h k : ℕ) (m : X) → h ≤ length s → k < h → held_in (set s k m) h ((length s - h) + k + 1) ≡ held_in s h ((length s - h) + k) ++ m ∷ []
push_round s h k m hl kl =
    let l : length (drop h s) ≡ length s - h = simp length-drop in
    let b : k < length s = omega arith in
    let e₁ = drop-set-lt h s k m kl in
    let e₂ = take_past (drop h s) (set s k m) (length s - h) (k + 1) l in
    let e₃ = take_more_set s k m b in
    let e₄ = take_past (drop h s) s (length s - h) k l in
    let e₅ = append_assoc (drop h s) (take k s) (m ∷ []) in
    let e₆ : (length s - h) + k + 1 ≡ (length s - h) + (k + 1) = omega arith in
    cc

pub push_held : {X : Type 0} (s : List X) (h n p : ℕ) (m : X) → h ≤ length s → n < length s → (n < length s - h → p ≡ h + n) → (length s - h ≤ n → p ≡ n - (length s - h)) → held_in (set s p m) h (n + 1) ≡ held_in s h n ++ m ∷ []
push_held s h n p m hl nl near round =
    elim (cases_lt n (length s - h)) [
      | inl l ↦ let e = near l in let t = push_near s h n m hl l in cc
      | inr r ↦
          let e = round r in
          let kl : p < h = omega (arith, e) in
          let en : n ≡ (length s - h) + p = omega (arith, e) in
          let t = push_round s h p m hl kl in
          cc
    ]

pub pop_held : {X : Type 0} (s : List X) (h n p : ℕ) (d : X) → h ≤ length s → 0 < n → n ≤ length s → (0 < length s - h → p ≡ h + 0) → (length s - h ≤ 0 → p ≡ 0 - (length s - h)) → held_in s h n ≡ get_or s p d ∷ held_in s (p + 1) (n - 1)
pop_held s h n p d hl n0 nl near round =
    let en : n ≡ suc (n - 1) = omega arith in
    elim (cases_lt h (length s)) [
      | inl l ↦
          let e : p ≡ h = omega (arith, near (omega arith)) in
          let t = drop_more s h d l in
          cc
      | inr r ↦
          let e : p ≡ 0 = omega (arith, round (omega arith)) in
          let n1 : n - 1 ≤ length (drop 1 s) = simp length-drop (omega arith) in
          let t₀ = drop_all h s r in
          let t₁ = drop_more s 0 d (omega arith) in
          let t₂ = take-append-le (n - 1) (drop 1 s) s n1 in
          cc
    ]

pub keep_step : {X : Type 0} (H₀ H₁ H₂ F : List X) (i : ℕ) (m : X) → H₁ ≡ H₀ ++ take i F → H₂ ≡ H₁ ++ m ∷ [] → i < length F → m ≡ get_or F i m → H₂ ≡ H₀ ++ take (i + 1) F
keep_step H₀ H₁ H₂ F i m e₁ e₂ l r =
    let t = take_more F i m l in
    let a = append_assoc H₀ (take i F) (m ∷ []) in
    cc

pub none_held : {X : Type 0} (s : List X) (h n : ℕ) → n ≡ 0 → held_in s h n ≡ []
none_held s h n e = ap (λ k. held_in s h k) e

pub two_parts : {X : Type 0} (xs : List X) (k a : ℕ) → k ≤ a → take k xs ++ take (a - k) (drop k xs) ≡ take a xs
two_parts xs k a l =
    let t = take-append-drop k (take a xs) in
    let u = take-take k a xs l in
    let v = drop-take k (a - k) xs in
    let w : k + (a - k) ≡ a = omega arith in
    cc

pub carry_over : {X : Type 0} (out ys inp H₀ H₁ H₂ : List X) (old p a : ℕ) → take old out ++ H₁ ≡ H₀ → H₁ ≡ [] → old ≤ p → p ≤ length out → ys ≡ take (p - old) inp → p - old ≤ a → a ≤ length inp → H₂ ≡ H₁ ++ take (a - (p - old)) (drop (p - old) inp) → take p (put_mid old (p - old) out ys) ++ H₂ ≡ H₀ ++ take a inp
carry_over out ys inp H₀ H₁ H₂ old p a e₁ e₂ l₁ l₂ e₃ l₃ l₄ e₄ =
    let n : length ys ≡ p - old = ap length e₃ ∙ length-take-le (p - old) inp (omega arith) in
    let t = take-put_mid old (p - old) out ys p (omega arith) (omega arith) in
    let u = two_parts inp (p - old) a l₃ in
    let v = append_assoc (take old out) ys H₂ in
    let w = append-nil (take old out) in
    cc

pub carry_rest : {X : Type 0} (out was ys : List X) (old p : ℕ) → old ≤ p → p ≤ length out → length ys ≡ p - old → drop old out ≡ drop old was → drop p (put_mid old (p - old) out ys) ≡ drop p was
carry_rest out was ys old p l₁ l₂ n e =
    let t = drop-put_mid old (p - old) out ys p (omega arith) (omega arith) n in
    let u = drop-drop (p - old) old out in
    let v = drop-drop (p - old) old was in
    let w : old + (p - old) ≡ p = omega arith in
    cc

pub length_held : {X : Type 0} (s : List X) (h n : ℕ) → h ≤ length s → n ≤ length s → length (held_in s h n) ≡ n
length_held s h n hl nl = simp (length-take, length-append, length-drop) (omega arith)

-- the message at a place, by the slot that it is in
pub at_held : {X : Type 0} (s : List X) (h n i p : ℕ) (d : X) → h ≤ length s → n ≤ length s → i < n → (i < length s - h → p ≡ h + i) → (length s - h ≤ i → p ≡ i - (length s - h)) → get_or (held_in s h n) i d ≡ get_or s p d
at_held s h n i p d hl nl il near round =
    elim (cases_lt i (length s - h)) [
      | inl l ↦
          let e = near l in
          let b : i < length (drop h s) = simp length-drop (omega arith) in
          get_or-take n (drop h s ++ s) i d il ∙ get_or_append_left (drop h s) s d i b ∙ get_or-drop h s i d ∙ ap (λ k. get_or s k d) (sym e)
      | inr r ↦
          let e = round r in
          get_or-take n (drop h s ++ s) i d il ∙ get_or-append_right (drop h s) s (length s - h) i d (length-drop h s) r ∙ ap (λ k. get_or s k d) (sym e)
    ]

pub nth_past : {X : Type 0} (xs : List X) (i : ℕ) → length xs ≤ i → nth xs i ≡ None
nth_past [] i h = refl
nth_past (x ∷ xs) zero h = absurd (omega arith)
nth_past (x ∷ xs) (suc i) h = nth_past xs i (omega arith)

pub nth_at : {X : Type 0} (xs : List X) (i : ℕ) (d : X) → i < length xs → nth xs i ≡ Some (get_or xs i d)
nth_at [] i d h = absurd (omega arith)
nth_at (x ∷ xs) zero d h = refl
nth_at (x ∷ xs) (suc i) d h = nth_at xs i d (omega arith)
