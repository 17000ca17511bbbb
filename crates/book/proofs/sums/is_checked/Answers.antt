use Rattle.std.proofs.Common.{◌≡◌, ℕ, ◌+◌, ◌-◌, ◌%◌, ◌&&◌, eqb, List, [], ◌∷◌, length, get_or, take, drop, refl, sym, ap, ◌∙◌, arith, w16}
use Rattle.std.specs.Int.{from_be_bytes}
use Rattle.std.proofs.lemmas.List.{get_or-drop}
use Rattle.std.proofs.lemmas.Bool.{and_left, eq-eqb, ne_eqb}
use Rattle.book.specs.Layout.{checked, two_bytes}
use Rattle.book.specs.Sums.{total, running}
use Rattle.book.proofs.sums.is_checked.Goals as goal

-- two of the last four bytes
two_at : (b : List ℕ) (i j k : ℕ) → j ≡ i + 1 → k ≡ 508 + i → from_be_bytes w16 (get_or (drop 508 b) i 0 ∷ get_or (drop 508 b) j 0 ∷ []) ≡ two_bytes b k
two_at b i j k next place =
    let high = get_or-drop 508 b i 0 in
    let low = get_or-drop 508 b j 0 in
    let here : get_or b (508 + i) 0 ≡ get_or b k 0 = ap (λ n. get_or b n 0) (sym place) in
    let after : get_or b (508 + j) 0 ≡ get_or b (k + 1) 0 = ap (λ n. get_or b n 0) (omega arith) in
    omega arith

-- both sums are the right ones, of the first bytes and the last four
module _ (b bytes check : List ℕ) (s t x y : ℕ) (long : length b ≡ 512) (first : bytes ≡ take 508 b) (last : check ≡ drop (length b - 4) b) (sum : s ≡ total bytes % 65535) (run : t ≡ running bytes % 65535) (one : x ≡ from_be_bytes w16 (get_or check 0 0 ∷ get_or check 1 0 ∷ [])) (two : y ≡ from_be_bytes w16 (get_or check 2 0 ∷ get_or check 3 0 ∷ [])) where
  check_is : check ≡ drop 508 b
  check_is = let front : length b - 4 ≡ 508 = omega arith in last ∙ ap (λ n. drop n b) front

  both : (eqb s x && eqb t y) ≡ checked b
  unfolding checked
  both =
      let s_is : s ≡ total (take 508 b) % 65535 = sum ∙ ap (λ l. total l % 65535) first in
      let t_is : t ≡ running (take 508 b) % 65535 = run ∙ ap (λ l. running l % 65535) first in
      let x_is : x ≡ two_bytes b 508 = one ∙ ap (λ l. from_be_bytes w16 (get_or l 0 0 ∷ get_or l 1 0 ∷ [])) check_is ∙ two_at b 0 1 508 (omega arith) (omega arith) in
      let y_is : y ≡ two_bytes b 510 = two ∙ ap (λ l. from_be_bytes w16 (get_or l 2 0 ∷ get_or l 3 0 ∷ [])) check_is ∙ two_at b 2 3 510 (omega arith) (omega arith) in
      λ i. eqb (s_is i) (x_is i) && eqb (t_is i) (y_is i)

  then_both : s ≡ x → eqb t y ≡ checked b
  then_both e = ap (λ v. v && eqb t y) (sym (eq-eqb s x e)) ∙ both

  else_both : (s ≡ x → ⊥) → eqb s x ≡ checked b
  else_both ne = ne_eqb s x ne ∙ sym (and_left (eqb s x) (eqb t y) (ne_eqb s x ne)) ∙ both

pub returns-then-sums-from_be_bytes : goal.returns-then-sums-from_be_bytes
returns-then-sums-from_be_bytes c =
    let front = rw c.unwrap.ensures at c.first_chunk.ensures.cases in
    let back = rw c.unwrap-2.ensures at c.last_chunk.ensures.cases in
    then_both c.args.block.now _ _ _ _ _ _ c.told-block front.same back.1.same c.check_sums-sums.ensures.sum c.check_sums-sums.ensures.running c.from_be_bytes.ensures c.from_be_bytes-then-sums-from_be_bytes.ensures c.if-sums-from_be_bytes.true

pub returns-else-sums-from_be_bytes : goal.returns-else-sums-from_be_bytes
returns-else-sums-from_be_bytes c =
    let front = rw c.unwrap.ensures at c.first_chunk.ensures.cases in
    let back = rw c.unwrap-2.ensures at c.last_chunk.ensures.cases in
    else_both c.args.block.now _ _ _ _ _ _ c.told-block front.same back.1.same c.check_sums-sums.ensures.sum c.check_sums-sums.ensures.running c.from_be_bytes.ensures refl c.if-sums-from_be_bytes.false
