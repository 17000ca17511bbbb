-- A join of two flows.
use Rattle.std.specs.Prelude.{◌≡◌, ℕ, List, map, is_ok, Ok, Err, Result}
use Rattle.tables.specs.Bounds.{join_answer}
use Rattle.tables.specs.Tables.{Curves, curves, paired}
use Rattle.tables.specs.declared.refusal.Refusal.{Refusal}
use Rattle.flows.specs.Views.{View, tail, next_view}
use Rattle.flows.specs.declared.flow.Flow.{Ghosts}
use Rattle.stages.specs.JoinViews.{joining_view, joining_below, joining_views}
use Rattle.stages.specs.declared.join.Join.{Join}

-- the pair of a join, or the zero pair of frame n
abbrev pub joined_or_closed : ℕ → Result Curves Refusal → Curves
joined_or_closed n (Ok c) = c
joined_or_closed n (Err e) = paired n (λ _. 0) (λ _. 0)

module _ {X Y : Type 0} (A : Ghosts X) (B : Ghosts Y) where
  abbrev pub join_view : Join X Y A B → View
  join_view s = joining_view A B s.is_open s.left s.right s.pair

  -- what both flows hand over together
  abbrev pub joining : Join X Y A B → ℕ → ℕ
  joining s = (join_view s).passed

  -- the stages below, and all from this one down
  abbrev pub join_below : Join X Y A B → List View
  join_below s = joining_below A B s.is_open s.left s.right

  abbrev pub join_views : Join X Y A B → List View
  join_views s = joining_views A B s.is_open s.left s.right s.pair

  -- the answer of the tables to the pairs of two flows
  abbrev pub join_fits : X → Y → Result Curves Refusal
  join_fits a b = join_answer (curves (A.pair a)) (curves (B.pair b))

  -- a join as it is built
  pub record JoinBuilt (a : X) (b : Y) (r : Join X Y A B) : Type 0 where
    pub left : r.left ≡ a
    pub right : r.right ≡ b
    pub opens : r.is_open ≡ is_ok (join_fits a b)
    pub bounds : curves r.pair ≡ joined_or_closed (A.pair a).most.frame (join_fits a b)

  -- a tick from s to t that hands over p
  pub record JoinTicked (s t : Join X Y A B) (p : ℕ) : Type 0 where
    pub passed : p ≡ joining s 0
    pub next : joining t ≡ tail (joining s)
    pub same : t.pair ≡ s.pair
    pub top : join_view t ≡ next_view (join_view s)
    pub views : join_views t ≡ map next_view (join_views s)
