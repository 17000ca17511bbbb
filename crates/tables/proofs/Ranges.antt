-- The steps of loops and chains over a range, and what follows of their results.
use Rattle.std.proofs.Common.{◌≡◌, ℕ, zero, suc, ◌+◌, ◌-◌, ◌<◌, ◌≤◌, min, max, Bool, true, false, not, Option, is_some, Some, None, MatchOption, sym, refl, ap, ◌∙◌, ⊎_elim, le_of_suc-le-suc, eq-or-lt_of_le, add-one, arith, List, [], ◌∷◌, subst}
use Rattle.std.specs.Fn.{Called}
use Rattle.std.proofs.iter.Yields.{nat_range_steps}
use Rattle.std.specs.Iterator.{Yields, FoldTurn}
use Rattle.std.specs.List.{FoldsTo}
use Rattle.std.specs.declared.ops.Range.{Range}
use denote.Param.Members.{Mut}
use Rattle.std.proofs.lemmas.Bool.{cond_both, both_ways, cases_Bool, and_from, and_parts, and_cases}
use Rattle.tables.specs.Ranges.{chosen, largest, smallest, seek, first, all, every}

pub smallest_none : (f : ℕ → ℕ) → smallest 0 f ≡ f 0
unfolding smallest
smallest_none f = refl

-- a loop `for k in 1..n + 1`, at the end of its turn k
pub smallest_step : (k : ℕ) (f : ℕ → ℕ) → 1 ≤ k → smallest (k + 1 - 1) f ≡ min (smallest (k - 1) f) (f k)
unfolding smallest
smallest_step zero f h = absurd (omega arith)
smallest_step (suc k) f h = let e : suc k + 1 - 1 ≡ suc k = omega arith in let e2 : suc k - 1 ≡ k = omega arith in rw (e, e2)

pub chosen_none : (op : ℕ → ℕ → ℕ) (f : ℕ → ℕ) → chosen op 0 f ≡ f 0
unfolding chosen
chosen_none op f = refl

pub chosen_step : (op : ℕ → ℕ → ℕ) (k : ℕ) (f : ℕ → ℕ) → 1 ≤ k → chosen op k f ≡ op (chosen op (k - 1) f) (f k)
unfolding chosen
chosen_step op zero f h = absurd (omega arith)
chosen_step op (suc k) f h = let e : suc k - 1 ≡ k = omega arith in rw e

-- a fold over a range that ends at last, by a closure that keeps what it captured
module _ {F : Type 0} (g : Mut F (ℕ × (ℕ × Unit {0})) ℕ) (f : F) (op : ℕ → ℕ → ℕ) (h : ℕ → ℕ) (last : ℕ) (turn : (x k r : ℕ) (q : F) → k ≤ last → Called g f (x, (k, tt)) r q → (q ≡ f) × (r ≡ op x (h k))) where
  pub folded : (xs : List ℕ) (s t u : Range ℕ) (best r : ℕ) (q : F) → s.end ≡ last + 1 → 1 ≤ s.start → s.start ≤ s.end → best ≡ chosen op (s.start - 1) h
      → Yields nat_range_steps s xs t → nat_range_steps t None u → FoldsTo (FoldTurn g) (f, best) xs (q, r) → r ≡ chosen op last h
  folded [] s t u best r q end some low is y stop run =
      let e : s.start - 1 ≡ last = omega (arith, stop.1.0, ap (λ k. k.start) y, ap (λ k. k.end) y) in
      sym (ap (λ p. p.1) run) ∙ is ∙ ap (λ m. chosen op m h) e
  folded (x ∷ xs) s t u best r q end some low is (j, step, y) stop (p, called, run) =
      let (kept, made) = turn best x p.1 p.0 (omega (arith, step.1.0, step.1.1)) called in
      let e : j.start - 1 ≡ s.start = omega (arith, step.1.2) in
      folded xs j t u p.1 r q (step.0 ∙ end) (omega (arith, step.1.2)) (omega (arith, step.0, step.1.0, step.1.2))
      (made ∙ (λ i. op (is i) (h (step.1.1 i))) ∙ sym (chosen_step op s.start h some) ∙ sym (ap (λ m. chosen op m h) e))
      y stop (subst (λ f. FoldsTo (FoldTurn g) (f, p.1) xs (q, r)) kept run)

pub chosen_largest : (n : ℕ) (f : ℕ → ℕ) → chosen max n f ≡ largest n f
unfolding chosen largest
chosen_largest zero f = refl
chosen_largest (suc n) f = ap (λ m. max m (f (suc n))) (chosen_largest n f)

pub chosen_smallest : (n : ℕ) (f : ℕ → ℕ) → chosen min n f ≡ smallest n f
unfolding chosen smallest
chosen_smallest zero f = refl
chosen_smallest (suc n) f = ap (λ m. min m (f (suc n))) (chosen_smallest n f)

pub largest_ge : (n : ℕ) (f : ℕ → ℕ) (k : ℕ) → k ≤ n → f k ≤ largest n f
unfolding largest
largest_ge zero f k h = let e : k ≡ 0 = omega arith in rw e (omega arith)
largest_ge (suc n) f k h =
    ⊎_elim (λ e. rw e (omega arith)) (λ l. omega (arith, largest_ge n f k (le_of_suc-le-suc l))) (eq-or-lt_of_le h)

pub largest_le : (n : ℕ) (f : ℕ → ℕ) (m : ℕ) → ((k : ℕ) → k ≤ n → f k ≤ m) → largest n f ≤ m
unfolding largest
largest_le zero f m h = h 0 (omega arith)
largest_le (suc n) f m h = omega (arith, largest_le n f m (λ k l. h k (omega arith)), h (suc n) (omega arith))

pub smallest_le : (n : ℕ) (f : ℕ → ℕ) (k : ℕ) → k ≤ n → smallest n f ≤ f k
unfolding smallest
smallest_le zero f k h = let e : k ≡ 0 = omega arith in rw e (omega arith)
smallest_le (suc n) f k h =
    ⊎_elim (λ e. rw e (omega arith)) (λ l. omega (arith, smallest_le n f k (le_of_suc-le-suc l))) (eq-or-lt_of_le h)

pub smallest_ge : (n : ℕ) (f : ℕ → ℕ) (m : ℕ) → ((k : ℕ) → k ≤ n → m ≤ f k) → m ≤ smallest n f
unfolding smallest
smallest_ge zero f m h = h 0 (omega arith)
smallest_ge (suc n) f m h = omega (arith, smallest_ge n f m (λ k l. h k (omega arith)), h (suc n) (omega arith))

-- a loop `for k in a..b + 1` that has come to k: what r says of a to b is what it says of k to b
abbrev pub Left : {X : Type 0} → (ℕ → ℕ → (ℕ → Bool) → X) → ℕ → ℕ → ℕ → (ℕ → Bool) → Type 0
Left r a k b p = r a b p ≡ r k b p

-- one that returns at the first k that does not pass
module _ (k b : ℕ) (p : ℕ → Bool) where
  pub every_skip : k ≤ b → p k ≡ true → every k b p ≡ every (k + 1) b p
  unfolding every all
  every_skip h pass =
      let e : suc b - k ≡ suc (suc b - (k + 1)) = omega arith in
      rw (e, pass, add-one)

  pub every_miss : k ≤ b → p k ≡ false → every k b p ≡ false
  unfolding every all
  every_miss h no-pass = let e : suc b - k ≡ suc (suc b - (k + 1)) = omega arith in rw (e, no-pass)

  pub every_out : b < k → every k b p ≡ true
  unfolding every all
  every_out h = let e : suc b - k ≡ 0 = omega arith in rw e

-- what a search from a to b found is the first that passes
module _ (p : ℕ → Bool) where
  seek_none : (k n : ℕ) → ((j : ℕ) → k ≤ j → j < k + n → p j ≡ false) → seek k n p ≡ None
  unfolding seek
  seek_none k zero h = refl
  seek_none k (suc n) h = rw (h k (omega arith) (omega arith)) (seek_none (suc k) n (λ j low high. h j (omega arith) (omega arith)))

  seek_hit : (k n j : ℕ) → k ≤ j → j < k + n → p j ≡ true → ((i : ℕ) → k ≤ i → i < j → p i ≡ false) → seek k n p ≡ Some j
  unfolding seek
  seek_hit k zero j low high pass h = absurd (omega arith)
  seek_hit k (suc n) j low high pass h =
      ⊎_elim
      (λ (e : k ≡ j). rw (ap p e ∙ pass) (ap Some e))
      (λ (l : k < j). rw (h k (omega arith) l) (seek_hit (suc k) n j l (omega arith) pass (λ i a b. h i (omega arith) b)))
      (eq-or-lt_of_le low)

  pub first_is : (a b : ℕ) (o : Option ℕ)
      → MatchOption o ((k : ℕ) → a ≤ k → k < b + 1 → k ≤ b → p k ≡ false) (λ i. (a ≤ i) × (i < b + 1) × (i ≤ b → p i ≡ true) × ((k : ℕ) → a ≤ k → k < i → k ≤ b → p k ≡ false))
      → o ≡ first a b p
  unfolding first
  first_is a b None h = sym (seek_none a (suc b - a) (λ j low high. h j low (omega arith) (omega arith)))
  first_is a b (Some i) (low, high, pass, h) = sym (seek_hit a (suc b - a) i low (omega arith) (pass (omega arith)) (λ j at under. h j at under (omega arith)))

-- what the answers say of the range
module _ (p : ℕ → Bool) where
  seek_some : (k n j : ℕ) → k ≤ j → j < k + n → p j ≡ true → is_some (seek k n p) ≡ true
  unfolding seek
  seek_some k zero j low high pass = absurd (omega arith)
  seek_some k (suc n) j low high pass =
      cond_both (p k) (Some k) (seek (suc k) n p) (λ o. is_some o ≡ true)
      (λ _. refl)
      (λ no-pass.
      ⊎_elim (λ (e : k ≡ j). absurd (both_ways (p k) no-pass (ap p e ∙ pass))) (λ (l : k < j). seek_some (suc k) n j l (omega arith) pass) (eq-or-lt_of_le low))

  -- a number that passes is enough for an answer
  pub first_some : (a b j : ℕ) → a ≤ j → j ≤ b → p j ≡ true → is_some (first a b p) ≡ true
  unfolding first
  first_some a b j low high pass = seek_some a (suc b - a) j low (omega arith) pass

  seek_sound : (k n j : ℕ) → seek k n p ≡ Some j → (k ≤ j) × (j < k + n) × (p j ≡ true)
  unfolding seek
  seek_sound k zero j e = let z : ◌≡◌ {A = ℕ} 0 1 = cc in absurd (omega arith)
  seek_sound k (suc n) j e =
      ⊎_elim
      (λ (pass : p k ≡ true).
      let here : k ≡ j = let e2 : Some k ≡ Some j = rw pass at e in cc in
      (omega arith, omega arith, sym (ap p here) ∙ pass))
      (λ (no-pass : p k ≡ false).
      let rest = seek_sound (suc k) n j (rw no-pass at e) in
      (omega (arith, rest.0), omega (arith, rest.1), rest.2))
      (cases_Bool (p k))

  -- the answer lies in the range, and passes
  pub first_sound : (a b j : ℕ) → first a b p ≡ Some j → (a ≤ j) × (j ≤ b) × (p j ≡ true)
  unfolding first
  first_sound a b j e = let s = seek_sound a (suc b - a) j e in (s.0, omega (arith, s.0, s.1), s.2)

  all_true : (k n : ℕ) → ((j : ℕ) → k ≤ j → j < k + n → p j ≡ true) → all k n p ≡ true
  unfolding all
  all_true k zero h = refl
  all_true k (suc n) h = and_from (p k) (all (suc k) n p) (h k (omega arith) (omega arith)) (all_true (suc k) n (λ j low high. h j (omega arith) (omega arith)))

  pub every_true : (a b : ℕ) → ((j : ℕ) → a ≤ j → j ≤ b → p j ≡ true) → every a b p ≡ true
  unfolding every
  every_true a b h = all_true a (suc b - a) (λ j low high. h j low (omega arith))

pub largest_same : (n : ℕ) (f g : ℕ → ℕ) → ((k : ℕ) → k ≤ n → f k ≡ g k) → largest n f ≡ largest n g
unfolding largest
largest_same zero f g h = h 0 (omega arith)
largest_same (suc n) f g h = omega (arith, largest_same n f g (λ k l. h k (omega arith)), h (suc n) (omega arith))

pub smallest_same : (n : ℕ) (f g : ℕ → ℕ) → ((k : ℕ) → k ≤ n → f k ≡ g k) → smallest n f ≡ smallest n g
unfolding smallest
smallest_same zero f g h = h 0 (omega arith)
smallest_same (suc n) f g h = omega (arith, smallest_same n f g (λ k l. h k (omega arith)), h (suc n) (omega arith))

module _ (p : ℕ → Bool) where
  all_each : (k n : ℕ) → all k n p ≡ true → (j : ℕ) → k ≤ j → j < k + n → p j ≡ true
  unfolding all
  all_each k zero h j low high = absurd (omega arith)
  all_each k (suc n) h j low high =
      let parts = and_parts (p k) (all (suc k) n p) h in
      ⊎_elim (λ (e : k ≡ j). sym (ap p e) ∙ parts.0) (λ (l : k < j). all_each (suc k) n parts.1 j l (omega arith)) (eq-or-lt_of_le low)

  pub every_each : (a b : ℕ) → every a b p ≡ true → (j : ℕ) → a ≤ j → j ≤ b → p j ≡ true
  unfolding every
  every_each a b h j low high = all_each a (suc b - a) h j low (omega arith)

-- each passes where none is found that does not
module _ (p : ℕ → Bool) where
  seek_all : (k n : ℕ) → is_some (seek k n (λ j. not (p j))) ≡ not (all k n p)
  unfolding seek all
  seek_all k zero = refl
  seek_all k (suc n) = ⊎_elim (λ (pass : p k ≡ true). rw pass (seek_all (suc k) n)) (λ (no-pass : p k ≡ false). rw no-pass refl) (cases_Bool (p k))

  pub first_every : (a b : ℕ) → is_some (first a b (λ j. not (p j))) ≡ not (every a b p)
  unfolding first every
  first_every a b = seek_all a (suc b - a)

-- where not each passes, some number of the range does not
module _ (p : ℕ → Bool) where
  all_some : (k n : ℕ) → all k n p ≡ false → (j : ℕ) × (k ≤ j) × (j < k + n) × (p j ≡ false)
  unfolding all
  all_some k zero h = absurd (both_ways true h refl)
  all_some k (suc n) h =
      ⊎_elim
      (λ (here : p k ≡ false). (k, omega arith, omega arith, here))
      (λ (past : all (suc k) n p ≡ false).
      let (j, low, high, is) = all_some (suc k) n past in
      (j, omega arith, omega arith, is))
      (and_cases (p k) (all (suc k) n p) h)

  pub every_some : (a b : ℕ) → every a b p ≡ false → (j : ℕ) × (a ≤ j) × (j ≤ b) × (p j ≡ false)
  unfolding every
  every_some a b h = let (j, low, high, is) = all_some a (suc b - a) h in (j, low, omega arith, is)

module _ (p : ℕ → Bool) where
  seek_least : (k n j i : ℕ) → seek k n p ≡ Some j → k ≤ i → p i ≡ true → j ≤ i
  unfolding seek
  seek_least k zero j i e low pass = let z : ◌≡◌ {A = ℕ} 0 1 = cc in absurd (omega arith)
  seek_least k (suc n) j i e low pass =
      ⊎_elim
      (λ (yes-pass : p k ≡ true).
      let here : k ≡ j = let e2 : Some k ≡ Some j = rw yes-pass at e in cc in omega arith)
      (λ (no-pass : p k ≡ false).
      ⊎_elim
      (λ (at_i : k ≡ i). absurd (both_ways (p k) no-pass (ap p at_i ∙ pass)))
      (λ (l : k < i). seek_least (suc k) n j i (rw no-pass at e) l pass)
      (eq-or-lt_of_le low))
      (cases_Bool (p k))

  -- the answer is the smallest of all that pass, in the range or past it
  pub first_least : (a b j i : ℕ) → first a b p ≡ Some j → a ≤ i → p i ≡ true → j ≤ i
  unfolding first
  first_least a b j i e low pass = seek_least a (suc b - a) j i e low pass
