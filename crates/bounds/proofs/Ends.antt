-- A block from its bytes and its check.
use Rattle.std.proofs.Common.{◌≡◌, ℕ, zero, suc, ◌/◌, ◌%◌, ◌≤◌, true, ◌≢◌, List, [], ◌∷◌, ◌++◌, length, get_or, take, set, replicate, refl, ap, ◌∙◌, arith, lit≤}
use Rattle.std.proofs.lemmas.List.{set-append_right, get_or-append_right, get_or-set_other, take_at}
use Rattle.std.proofs.lemmas.Bool.{and_from, eq-eqb}
use Rattle.book.specs.Layout.{checked}
use Rattle.book.specs.Sums.{total, running}

-- four bytes written after 508
pub ended : (xs : List ℕ) (a b c d : ℕ) → length xs ≡ 508 → set (set (set (set (xs ++ 0 ∷ 0 ∷ 0 ∷ 0 ∷ []) 508 a) 509 b) 510 c) 511 d ≡ xs ++ a ∷ b ∷ c ∷ d ∷ []
ended xs a b c d h =
    ap (λ l. set (set (set l 509 b) 510 c) 511 d) (set-append_right xs (0 ∷ 0 ∷ 0 ∷ 0 ∷ []) 508 508 a h (lit≤ tt))
    ∙ (ap (λ l. set (set l 510 c) 511 d) (set-append_right xs (a ∷ 0 ∷ 0 ∷ 0 ∷ []) 508 509 b h (lit≤ tt))
    ∙ (ap (λ l. set l 511 d) (set-append_right xs (a ∷ b ∷ 0 ∷ 0 ∷ []) 508 510 c h (lit≤ tt))
    ∙ set-append_right xs (a ∷ b ∷ c ∷ 0 ∷ []) 508 511 d h (lit≤ tt)))

-- and those four the bytes of two sums
pub ended_by : (xs ys p q : List ℕ) (s t : ℕ) → ys ≡ xs → length xs ≡ 508 → p ≡ (s / 256 % 256) ∷ (s % 256) ∷ [] → q ≡ (t / 256 % 256) ∷ (t % 256) ∷ [] → set (set (set (set (ys ++ 0 ∷ 0 ∷ 0 ∷ 0 ∷ []) 508 (get_or p 0 0)) 509 (get_or p 1 0)) 510 (get_or q 0 0)) 511 (get_or q 1 0) ≡ xs ++ (s / 256 % 256) ∷ (s % 256) ∷ (t / 256 % 256) ∷ (t % 256) ∷ []
ended_by xs ys p q s t same long high low = rw (same, high, low) (ended xs _ _ _ _ long)

-- the check holds where the four are the two sums, high byte first
pub checks : (xs : List ℕ) (s t : ℕ) → length xs ≡ 508 → s ≡ total xs % 65535 → t ≡ running xs % 65535 → checked (xs ++ (s / 256 % 256) ∷ (s % 256) ∷ (t / 256 % 256) ∷ (t % 256) ∷ []) ≡ true
unfolding checked
checks xs s t h p q =
    let ys : List ℕ = (s / 256 % 256) ∷ (s % 256) ∷ (t / 256 % 256) ∷ (t % 256) ∷ [] in
    let front : take 508 (xs ++ ys) ≡ xs = take_at xs ys 508 h in
    let a : get_or (xs ++ ys) 508 0 ≡ s / 256 % 256 = get_or-append_right xs ys 508 508 0 h (lit≤ tt) in
    let b : get_or (xs ++ ys) 509 0 ≡ s % 256 = get_or-append_right xs ys 508 509 0 h (lit≤ tt) in
    let c : get_or (xs ++ ys) 510 0 ≡ t / 256 % 256 = get_or-append_right xs ys 508 510 0 h (lit≤ tt) in
    let d : get_or (xs ++ ys) 511 0 ≡ t % 256 = get_or-append_right xs ys 508 511 0 h (lit≤ tt) in
    and_from _ _
    (eq-eqb _ _ (ap (λ l. total l % 65535) front ∙ omega arith))
    (eq-eqb _ _ (ap (λ l. running l % 65535) front ∙ omega arith))

-- what is not written stays 0
pub unwritten : (n i a b : ℕ) → 2 ≤ i → get_or (set (set (replicate n 0) 0 a) 1 b) i 0 ≡ 0
unwritten n i a b h =
    let not_first : i ≢ 0 = omega arith in
    let not-second : i ≢ 1 = omega arith in
    rw (get_or-set_other, get_or-set_other) (zero_at n i)
  where
    zero_at : (m j : ℕ) → get_or {A = ℕ} (replicate m 0) j 0 ≡ 0
    zero_at zero j = refl
    zero_at (suc m) zero = refl
    zero_at (suc m) (suc j) = zero_at m j
