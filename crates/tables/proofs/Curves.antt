-- Curves that rise, and what the arithmetic of curves keeps.
use Rattle.std.proofs.Common.{◌≡◌, ℕ, zero, suc, ◌+◌, ◌-◌, ◌<◌, ◌≤◌, Bool, true, false, ◌&&◌, leb, is_some, Some, None, Option, unwrap_or, refl, ap, ⊎_elim, le_of_suc-le-suc, eq-or-lt_of_le, add-one, arith}
use Rattle.tables.specs.Ranges.{first}
use Rattle.std.proofs.lemmas.Bool.{leb-true, le-leb, and_parts, false≢true}
use Rattle.tables.specs.Limits.{longest, limit}
use Rattle.tables.specs.Curves.{Graph, Settles, Shortest, convolved, excess, settling_length, covers, shortest_delay, deconvolved, growth, lawful}
use Rattle.tables.proofs.Ranges.{largest_ge, largest_le, largest_same, smallest_le, smallest_ge, smallest_same, first_some, first_least, first_sound, every_true, every_each}

-- up to n, no value smaller than the one before it
abbrev pub RisesTo : ℕ → (ℕ → ℕ) → Type 0
RisesTo n f = (k : ℕ) → k < n → f k ≤ f (k + 1)

pub rises_to : (n : ℕ) (f : ℕ → ℕ) → RisesTo n f → (j k : ℕ) → j ≤ k → k ≤ n → f j ≤ f k
rises_to n f r j zero h l = let e : j ≡ 0 = omega arith in rw e (omega arith)
rises_to n f r j (suc k) h l =
    ⊎_elim (λ e. rw e (omega arith)) (λ m. omega (arith, rises_to n f r j k (le_of_suc-le-suc m) (omega arith), rw add-one at (r k l))) (eq-or-lt_of_le h)

pub graph_le : {n : ℕ} {f : ℕ → ℕ} → Graph n f → (k : ℕ) → k ≤ n → f k ≤ limit
graph_le {n} {f} g k h = omega (arith, rises_to n f g.rises k n h (omega arith), g.limited)

-- no value smaller than the one before it
abbrev pub Rises : (ℕ → ℕ) → Type 0
Rises f = (k : ℕ) → f k ≤ f (k + 1)

pub rises_far : (f : ℕ → ℕ) → Rises f → (j k : ℕ) → j ≤ k → f j ≤ f k
rises_far f r j k h = rises_to k f (λ i _. r i) j k h (omega arith)

module _ (f g : ℕ → ℕ) where
  pub convolved_rises : Rises f → Rises g → Rises (convolved f g)
  unfolding convolved
  convolved_rises fr gr k =
      smallest_ge (k + 1) (λ u. f u + g (k + 1 - u)) (convolved f g k)
      (λ u h.
      ⊎_elim
      (λ (e : u ≡ suc k).
      let last : convolved f g k ≤ f k + g (k - k) = smallest_le k (λ v. f v + g (k - v)) k (omega arith) in
      omega (arith, last, rises_far g gr (k - k) (k + 1 - u) (omega arith), rises_far f fr k u (omega arith)))
      (λ (l : u < suc k).
      let mid : convolved f g k ≤ f u + g (k - u) = smallest_le k (λ v. f v + g (k - v)) u (omega arith) in
      omega (arith, mid, rises_far g gr (k - u) (k + 1 - u) (omega arith)))
      (eq-or-lt_of_le (rw add-one at h)))

  pub convolved_le : (k : ℕ) → f 0 ≡ 0 → convolved f g k ≤ g k
  unfolding convolved
  convolved_le k z = let e : k - 0 ≡ k = omega arith in omega (arith, smallest_le k (λ u. f u + g (k - u)) 0 (omega arith), ap g e)

  pub excess_rises : Rises (excess f g)
  unfolding excess
  excess_rises k = largest_le k (λ u. f u - g u) (excess f g (k + 1)) (λ u h. largest_ge (k + 1) (λ v. f v - g v) u (omega arith))

  pub excess_le : (k : ℕ) → Rises f → excess f g k ≤ f k
  unfolding excess
  excess_le k fr = largest_le k (λ u. f u - g u) (f k) (λ u h. omega (arith, rises_far f fr u k h))

  pub deconvolved_rises : (m : ℕ) → Rises f → Rises (deconvolved m f g)
  unfolding deconvolved
  deconvolved_rises m fr k =
      largest_le m (λ i. f (k + i) - g i) (deconvolved m f g (k + 1))
      (λ i h.
      omega (arith, rises_far f fr (k + i) (k + 1 + i) (omega arith), largest_ge m (λ j. f (k + 1 + j) - g j) i h))

  pub deconvolved_ge : (m k : ℕ) → g 0 ≡ 0 → f k ≤ deconvolved m f g k
  unfolding deconvolved
  deconvolved_ge m k z = let e : k + 0 ≡ k = omega arith in omega (arith, largest_ge m (λ i. f (k + i) - g i) 0 (omega arith), ap f e)

module _ (f : ℕ → ℕ) (m : ℕ) where
  pub growth_starts : growth m f 0 ≡ 0
  unfolding growth
  growth_starts = let z : f (0 + 0) - f 0 ≤ 0 = let e : 0 + 0 ≡ 0 = omega arith in omega (arith, ap f e) in omega (arith, smallest_le m (λ i. f (0 + i) - f i) 0 (omega arith))

  pub growth_rises : Rises f → Rises (growth m f)
  unfolding growth
  growth_rises fr k =
      smallest_ge m (λ i. f (k + 1 + i) - f i) (growth m f k)
      (λ i h. omega (arith, smallest_le m (λ j. f (k + j) - f j) i h, rises_far f fr (k + i) (k + 1 + i) (omega arith)))

  pub growth_le : (k : ℕ) → growth m f k ≤ f k
  unfolding growth
  growth_le k = let e : k + 0 ≡ k = omega arith in omega (arith, smallest_le m (λ i. f (k + i) - f i) 0 (omega arith), ap f e)

-- curves that agree, or of which one is under the other, up to n
pub convolved_same : (f g g' : ℕ → ℕ) (k : ℕ) → ((j : ℕ) → j ≤ k → g j ≡ g' j) → convolved f g k ≡ convolved f g' k
unfolding convolved
convolved_same f g g' k h = smallest_same k (λ u. f u + g (k - u)) (λ u. f u + g' (k - u)) (λ u l. omega (arith, h (k - u) (omega arith)))

pub convolved_under : (f f' g g' : ℕ → ℕ) (k : ℕ) → ((j : ℕ) → j ≤ k → f j ≤ f' j) → ((j : ℕ) → j ≤ k → g j ≤ g' j) → convolved f g k ≤ convolved f' g' k
unfolding convolved
convolved_under f f' g g' k hf hg =
    smallest_ge k (λ u. f' u + g' (k - u)) (convolved f g k)
    (λ u l. omega (arith, smallest_le k (λ v. f v + g (k - v)) u l, hf u l, hg (k - u) (omega arith)))

pub excess_under : (f f' g g' : ℕ → ℕ) (k : ℕ) → ((j : ℕ) → j ≤ k → f j ≤ f' j) → ((j : ℕ) → j ≤ k → g' j ≤ g j) → excess f g k ≤ excess f' g' k
unfolding excess
excess_under f f' g g' k hf hg =
    largest_le k (λ u. f u - g u) (excess f' g' k)
    (λ u l. omega (arith, largest_ge k (λ v. f' v - g' v) u l, hf u l, hg u l))

pub deconvolved_same : (m : ℕ) (f f' g : ℕ → ℕ) (k : ℕ) → ((j : ℕ) → j ≤ k + m → f j ≡ f' j) → deconvolved m f g k ≡ deconvolved m f' g k
unfolding deconvolved
deconvolved_same m f f' g k h = largest_same m (λ i. f (k + i) - g i) (λ i. f' (k + i) - g i) (λ i l. omega (arith, h (k + i) (omega arith)))

pub zero_graph : {n : ℕ} → 1 ≤ n → n ≤ longest → Graph n (λ _. 0)
zero_graph some few = record { some = some; few = few; starts = refl; rises = λ k _. omega arith; limited = omega arith }

pub graph_at : {m n : ℕ} {f : ℕ → ℕ} → m ≡ n → Graph n f → Graph m f
graph_at {m} {n} {f} e h = rw e h

pub graph_same : {n : ℕ} {f g : ℕ → ℕ} → ((k : ℕ) → k ≤ n → f k ≡ g k) → Graph n g → Graph n f
graph_same {n} {f} {g} same h = record {
  some = h.some;
  few = h.few;
  starts = omega (arith, same 0 (omega arith), h.starts);
  rises = λ k l. omega (arith, same k (omega arith), same (k + 1) (omega arith), h.rises k l);
  limited = omega (arith, same n (omega arith), h.limited);
}

pub lawful_graph : (n : ℕ) (f : ℕ → ℕ) → 1 ≤ n → n ≤ longest → f 0 ≡ 0 → lawful n f ≡ true → Graph n f
unfolding lawful
lawful_graph n f some few starts h =
    let p : ℕ → Bool = λ k. leb (f (k - 1)) (f k) && leb (f k) limit in
    let at_each : (j : ℕ) → 1 ≤ j → j ≤ n → (f (j - 1) ≤ f j) × (f j ≤ limit) =
    λ j low high.
    let parts = and_parts (leb (f (j - 1)) (f j)) (leb (f j) limit) (every_each p 1 n h j low high) in
    (leb-true (f (j - 1)) (f j) parts.0, leb-true (f j) limit parts.1) in
    record {
      some = some;
      few = few;
      starts = starts;
      rises = λ k l. let e : k + 1 - 1 ≡ k = omega arith in omega (arith, (at_each (k + 1) (omega arith) (omega arith)).0, ap f e);
      limited = (at_each n some (omega arith)).1;
    }

some_value : (o : Option ℕ) → is_some o ≡ true → o ≡ Some (unwrap_or o 0)
some_value None h = let z : ◌≡◌ {A = Bool} false true = h in absurd (false≢true z)
some_value (Some x) h = refl

module _ (n : ℕ) (f g : ℕ → ℕ) where
  pub settling_settles : (d : ℕ) → settling_length n f g ≡ Some d → Settles n f g d
  unfolding settling_length
  settling_settles d e =
      let p : ℕ → Bool = λ k. leb (f k) (g k) in
      let s = first_sound p 1 n d e in
      record {
        some = s.0;
        within = s.1;
        settled = leb-true (f d) (g d) s.2;
        earliest = λ k low h. first_least p 1 n d k e low (le-leb (f k) (g k) h);
      }

  -- where f is at most g at the length n, a shortest-delay of n is enough, so there is a smallest
  pub delay_shortest : Rises f → Rises g → f n ≤ g n → Shortest n f g (shortest_delay n f g)
  unfolding shortest_delay covers
  delay_shortest fr gr h =
      let p : ℕ → Bool = covers n f g in
      let enough : is_some (first 0 n p) ≡ true =
      first_some p 0 n n (omega arith) (omega arith)
      (every_true (λ k. leb (f k) (g (k + n))) 0 n
      (λ k _ l. le-leb (f k) (g (k + n)) (omega (arith, h, rises_far f fr k n l, rises_far g gr n (k + n) (omega arith))))) in
      let is = some_value (first 0 n p) enough in
      let d = unwrap_or (first 0 n p) 0 in
      record {
        enough = λ k l. leb-true (f k) (g (k + d)) (every_each (λ j. leb (f j) (g (j + d))) 0 n (first_sound p 0 n d is).2 k (omega arith) l);
        least = λ c fits. first_least p 0 n d c is (omega arith) (every_true (λ k. leb (f k) (g (k + c))) 0 n (λ k _ l. le-leb (f k) (g (k + c)) (fits k l)));
      }
