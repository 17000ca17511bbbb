-- The parts of a block.
use Rattle.std.proofs.Common.{◌≡◌, ℕ, ◌+◌, ◌-◌, ◌<◌, ◌≤◌, Bool, true, false, cond, ◌&&◌, leb, List, [], ◌∷◌, length, get_or, take, drop, Ok, Err, refl, sym, ap, ◌∙◌, inl, inr, arith}
use Rattle.std.proofs.lemmas.List.{drop_more, drop-drop, take_all, length-drop}
use Rattle.std.proofs.lemmas.Bool.{le-leb, lt-leb, and_from, and_left, and_right, cond-true, cond-false, cases_lt}
use Rattle.tables.specs.declared.refusal.Refusal.{Refusal}
use Rattle.tables.specs.declared.refusal.Refusal.TheVariants.{Kind}
use Rattle.book.specs.Layout.{all_zero, known, most_bytes, least_bytes}
use Rattle.book.specs.Reads.{Read, parted_answer}

-- a check that passed, and the value that it let through
pub granted : {X : Type 0} (b : Bool) (x y : X) (e : Refusal) → Ok x ≡ cond b (Ok y) (Err e) → (b ≡ true) × (x ≡ y)
granted true x y e h = (refl, cc)
granted false x y e h = cc

-- what follows the head of b is cut into the most entries, the least entries and what follows them
module _ (b most after least last : List ℕ) (long : length b ≡ 512) (m : most ≡ take 192 (take (length b - 8) (drop 8 b))) (a : after ≡ drop 192 (take (length b - 8) (drop 8 b))) (l : least ≡ take 192 after) (z : last ≡ drop 192 after) where
  rest_is : take (length b - 8) (drop 8 b) ≡ drop 8 b
  rest_is = take_all (length b - 8) (drop 8 b) (simp length-drop (omega arith))

  after_is : after ≡ drop 200 b
  after_is = a ∙ ap (drop 192) rest_is ∙ drop-drop 192 8 b

  most_is : most ≡ most_bytes b
  most_is = m ∙ ap (take 192) rest_is

  least_is : least ≡ least_bytes b
  least_is = l ∙ ap (take 192) after_is

  fixed_is : take 116 last ≡ take 116 (drop 392 b)
  fixed_is = ap (take 116) (z ∙ ap (drop 192) after_is ∙ drop-drop 192 200 b)

  one : (i : ℕ) → i < 512 → drop i b ≡ get_or b i 0 ∷ drop (i + 1) b
  one i h = drop_more b i 0 (omega arith)

  -- the six zeros of the head
  abbrev pub head : List ℕ
  head = get_or b 2 0 ∷ get_or b 3 0 ∷ get_or b 4 0 ∷ get_or b 5 0 ∷ get_or b 6 0 ∷ get_or b 7 0 ∷ []

  head_is : take 6 (drop 2 b) ≡ head
  head_is =
      ap (take 6) (one 2 (omega arith))
      ∙ ap (λ t. get_or b 2 0 ∷ take 5 t) (one 3 (omega arith))
      ∙ ap (λ t. get_or b 2 0 ∷ get_or b 3 0 ∷ take 4 t) (one 4 (omega arith))
      ∙ ap (λ t. get_or b 2 0 ∷ get_or b 3 0 ∷ get_or b 4 0 ∷ take 3 t) (one 5 (omega arith))
      ∙ ap (λ t. get_or b 2 0 ∷ get_or b 3 0 ∷ get_or b 4 0 ∷ get_or b 5 0 ∷ take 2 t) (one 6 (omega arith))
      ∙ ap (λ t. get_or b 2 0 ∷ get_or b 3 0 ∷ get_or b 4 0 ∷ get_or b 5 0 ∷ get_or b 6 0 ∷ take 1 t) (one 7 (omega arith))

  pub head_not_zero : all_zero head ≡ false → Err Kind ≡ parted_answer b
  unfolding known
  head_not_zero h = sym (cond-false _ _ _ (and_right _ _ (and_left _ _ (ap all_zero head_is ∙ h))))

  pub fixed_not_zero : all_zero (take 116 last) ≡ false → Err Kind ≡ parted_answer b
  unfolding known
  fixed_not_zero h =
      let k = leb 1 (get_or b 0 0) && leb (get_or b 0 0) 3 in
      let x = all_zero (take 6 (drop 2 b)) in
      let y = all_zero (take 116 (drop 392 b)) in
      let not_known : (k && (x && y)) ≡ false = and_right k (x && y) (and_right x y (ap all_zero (sym fixed_is) ∙ h)) in
      sym (cond-false (k && (x && y)) _ _ not_known)

  pub kind_unknown : (get_or b 0 0 ≡ 1 → ⊥) → (get_or b 0 0 ≡ 2 → ⊥) → (get_or b 0 0 ≡ 3 → ⊥) → Err Kind ≡ parted_answer b
  unfolding known
  kind_unknown n1 n2 n3 =
      let k = get_or b 0 0 in
      let no_kind : (leb 1 k && leb k 3) ≡ false =
      elim (cases_lt k 1) [ inl low ↦ and_left _ _ (lt-leb 1 k low) | inr high ↦ and_right (leb 1 k) (leb k 3) (lt-leb k 3 (omega arith)) ] in
      sym (cond-false _ _ _ (and_left _ _ no_kind))

  pub parted_as : (k : ℕ) → get_or b 0 0 ≡ k → 1 ≤ k → k ≤ 3 → all_zero head ≡ true → all_zero (take 116 last) ≡ true
      → Ok (record { kind = k; frame = get_or b 1 0; most = most; least = least }) ≡ parted_answer b
  unfolding known
  parted_as k is low high zeros fixed =
      let j = get_or b 0 0 in
      let kinds : (leb 1 j && leb j 3) ≡ true = and_from _ _ (le-leb 1 j (omega arith)) (le-leb j 3 (omega arith)) in
      let same : ◌≡◌ {A = Read} (record { kind = k; frame = get_or b 1 0; most = most; least = least }) (record { kind = j; frame = get_or b 1 0; most = most_bytes b; least = least_bytes b }) =
      λ i. record { kind = sym is i; frame = get_or b 1 0; most = most_is i; least = least_is i } in
      ap Ok same ∙ sym (cond-true _ _ _ (and_from _ _ kinds (and_from _ _ (ap all_zero head_is ∙ zeros) (ap all_zero (sym fixed_is) ∙ fixed))))
