-- Tables and pairs as their readers see them.
use Rattle.std.specs.Prelude.{◌≡◌, ℕ, ◌≤◌, List, map, slice_index}
use Rattle.std.specs.List.{range_with_len}
use Rattle.tables.specs.Curves.{repeated}
use Rattle.tables.specs.declared.table.Table.{Table}
use Rattle.tables.specs.declared.pair.Pair.{Pair}

abbrev pub entry : Table → ℕ → ℕ
entry t k = slice_index t.entries k

-- the repeated entry at the length k
unfoldable pub at : Table → ℕ → ℕ
at t k = repeated t.frame (entry t) k

-- the counts at the lengths 1 to n
abbrev pub row : ℕ → (ℕ → ℕ) → List ℕ
row n f = map f (range_with_len 1 n)

-- t has the frame n, and f k at each length k
pub record Shows (t : Table) (n : ℕ) (f : ℕ → ℕ) : Type 0 where
  pub frame : t.frame ≡ n
  pub each : (k : ℕ) → k ≤ n → entry t k ≡ f k

-- a table: its frame, and the repeated entry at every length
pub record Curve : Type 0 where
  pub frame : ℕ
  pub count : ℕ → ℕ

abbrev pub curve : Table → Curve
curve t = record { frame = t.frame; count = at t }

-- a pair: its frame, and the repeated most and least at every length
pub record Curves : Type 0 where
  pub frame : ℕ
  pub most : ℕ → ℕ
  pub least : ℕ → ℕ

abbrev pub curves : Pair → Curves
curves p = record { frame = p.most.frame; most = at p.most; least = at p.least }

-- the table of frame n that has f k at each length k of the frame, and the pair of two
abbrev pub tabled : ℕ → (ℕ → ℕ) → Curve
tabled n f = record { frame = n; count = repeated n f }

abbrev pub paired : ℕ → (ℕ → ℕ) → (ℕ → ℕ) → Curves
paired n f g = record { frame = n; most = repeated n f; least = repeated n g }

-- the pair with this most, and nothing at the least
abbrev pub capped : Curve → Curves
capped c = record { frame = c.frame; most = c.count; least = repeated c.frame (λ _. 0) }
