-- Pairs by what their tables show, and that what is computed of pairs is a pair.
use Rattle.std.proofs.Common.{◌≡◌, ℕ, zero, suc, ◌+◌, ◌-◌, ◌<◌, ◌≤◌, min, true, leb, ap, arith}
use Rattle.std.proofs.lemmas.Bool.{leb-true}
use Rattle.tables.specs.Curves.{Graph, convolved, deconvolved, excess, growth, most_passed, nowhere_above}
use Rattle.tables.specs.Limits.{longest, limit}
use Rattle.tables.specs.Tables.{entry, at, Shows, Curves, paired}
use Rattle.tables.specs.declared.table.Table.{Table}
use Rattle.tables.specs.declared.pair.Pair.{Pair}
use Rattle.tables.proofs.Curves.{convolved_le, convolved_rises, convolved_under, deconvolved_ge, deconvolved_rises, deconvolved_same, excess_le, excess_rises, growth_le, growth_rises, growth_starts}
use Rattle.tables.proofs.Ranges.{every_each, largest_le}
use Rattle.tables.proofs.Tables.{at_le, at_later, at_rises, at_within, at_zero, shows_all}

-- what a pair keeps, of two tables by what they show
pub keeps : {m l : Table} {n : ℕ} {f g : ℕ → ℕ} → Shows m n f → Shows l n g → ((k : ℕ) → k ≤ n → g k ≤ f k)
    → record { same : l.frame ≡ m.frame; under : (k : ℕ) → k ≤ m.frame → entry l k ≤ entry m k }
keeps {m} {l} {n} sm sl below = record {
  same = omega (arith, sm.frame, sl.frame);
  under = λ k h. let low : k ≤ n = omega (arith, sm.frame) in omega (arith, sm.each k low, sl.each k low, below k low);
}

-- and what its readers see
pub shows_curves : {m l : Table} {n : ℕ} {f g : ℕ → ℕ} → Shows m n f → Shows l n g → ◌≡◌ {A = Curves} (record { frame = m.frame; most = at m; least = at l }) (paired n f g)
shows_curves sm sl = λ i. record { frame = sm.frame i; most = shows_all sm i; least = shows_all sl i }

pub under_each : (n : ℕ) (f g : ℕ → ℕ) → nowhere_above n f g ≡ true → g 0 ≤ f 0 → (k : ℕ) → k ≤ n → g k ≤ f k
unfolding nowhere_above
under_each n f g h first zero l = first
under_each n f g h first (suc k) l = leb-true (g (suc k)) (f (suc k)) (every_each (λ j. leb (g j) (f j)) 1 n h (suc k) (omega arith) l)

pub at_under : (p : Pair) (k : ℕ) → k ≤ p.most.frame → at p.least k ≤ at p.most k
at_under p k h = omega (arith, at_within p.most k h, at_within p.least k (omega (arith, p.same)), p.under k h)

-- what fills the tables that are computed
module _ (a b : Table) where
  pub convolved_graph : a.frame ≡ b.frame → Graph a.frame (convolved (at a) (at b))
  convolved_graph same = record {
    some = a.some;
    few = a.few;
    starts = omega (arith, convolved_le (at a) (at b) 0 (at_zero a), at_zero b);
    rises = λ k _. convolved_rises (at a) (at b) (at_rises a) (at_rises b) k;
    limited = omega (arith, convolved_le (at a) (at b) a.frame (at_zero a), at_le b a.frame (omega arith));
  }

  pub excess_graph : Graph a.frame (excess (at a) (at b))
  excess_graph = record {
    some = a.some;
    few = a.few;
    starts = omega (arith, excess_le (at a) (at b) 0 (at_rises a), at_zero a);
    rises = λ k _. excess_rises (at a) (at b) k;
    limited = omega (arith, excess_le (at a) (at b) a.frame (at_rises a), at_le a a.frame (omega arith));
  }

  pub sum_graph : at a a.frame + at b a.frame ≤ limit → Graph a.frame (λ k. at a k + at b k)
  sum_graph fits = record {
    some = a.some;
    few = a.few;
    starts = omega (arith, at_zero a, at_zero b);
    rises = λ k _. omega (arith, at_rises a k, at_rises b k);
    limited = fits;
  }

pub growth_graph : (h : Table) → Graph h.frame (growth (h.frame - 1) (at h))
growth_graph h =
    let m = h.frame - 1 in
    record {
      some = h.some;
      few = h.few;
      starts = growth_starts (at h) m;
      rises = λ k _. growth_rises (at h) m (at_rises h) k;
      limited = omega (arith, growth_le (at h) m h.frame, at_le h h.frame (omega arith));
    }

-- the largest growth of a table
pub rise_graph : (h : Table) → Graph h.frame (deconvolved (h.frame - 1) (at h) (at h))
unfolding deconvolved
rise_graph h =
    let m = h.frame - 1 in
    record {
      some = h.some;
      few = h.few;
      starts = let none : deconvolved m (at h) (at h) 0 ≤ 0 = largest_le m (λ i. at h (0 + i) - at h i) 0 (λ i _. let e : 0 + i ≡ i = omega arith in omega (arith, ap (at h) e)) in omega arith;
      rises = λ k _. deconvolved_rises (at h) (at h) m (at_rises h) k;
      limited =
          largest_le m (λ i. at h (h.frame + i) - at h i) limit
          (λ i _. let e : h.frame + i ≡ i + h.frame = omega arith in omega (arith, ap (at h) e, at_later h i, h.limited));
    }

-- what a server passes: the convolution may be read from what is written out
module _ (e s : Pair) (d : ℕ) (same : e.most.frame ≡ s.most.frame) where
  pub passed_graph : Graph e.most.frame (most_passed d (at e.most) (at s.most) (at s.least))
  unfolding most_passed
  passed_graph =
      let g = convolved (at e.most) (at s.most) in
      record {
        some = e.most.some;
        few = e.most.few;
        starts = omega (arith, at_zero s.most);
        rises = λ k _. omega (arith, at_rises s.most k, deconvolved_rises g (at s.least) (d - 1) (convolved_rises (at e.most) (at s.most) (at_rises e.most) (at_rises s.most)) k);
        limited = omega (arith, at_le s.most e.most.frame (omega (arith, same)));
      }

  pub passed_under : (k : ℕ) → k ≤ e.most.frame → convolved (at e.least) (at s.least) k ≤ most_passed d (at e.most) (at s.most) (at s.least) k
  unfolding most_passed
  passed_under k h =
      let g = convolved (at e.most) (at s.most) in
      let served : convolved (at e.least) (at s.least) k ≤ at s.least k = convolved_le (at e.least) (at s.least) k (at_zero e.least) in
      let sent : convolved (at e.least) (at s.least) k ≤ g k =
      convolved_under (at e.least) (at e.most) (at s.least) (at s.most) k (λ j l. at_under e j (omega arith)) (λ j l. at_under s j (omega (arith, same))) in
      omega (arith, at_under s k (omega (arith, same)), deconvolved_ge g (at s.least) (d - 1) k (at_zero s.least))

  pub passed_same : (f : ℕ → ℕ) → ((n : ℕ) → n < 128 → f n ≡ convolved (at e.most) (at s.most) n) → d ≤ longest → (k : ℕ) → k ≤ e.most.frame
      → min (at s.most k) (deconvolved (d - 1) f (at s.least) k) ≡ most_passed d (at e.most) (at s.most) (at s.least) k
  unfolding most_passed
  passed_same f is few k h =
      ap (min (at s.most k)) (deconvolved_same (d - 1) f (convolved (at e.most) (at s.most)) (at s.least) k (λ j l. is j (omega (arith, e.most.few))))
