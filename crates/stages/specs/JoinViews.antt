-- A join field by field: whether it is open, the two flows, and their pair.
use Rattle.std.specs.Prelude.{Bool, List, ◌∷◌, ◌++◌, None}
use Rattle.tables.specs.Tables.{at}
use Rattle.tables.specs.declared.bounds.StageKind.TheVariants.{Join as JoinKind}
use Rattle.tables.specs.declared.pair.Pair.{Pair}
use Rattle.courses.specs.Courses.{plus}
use Rattle.flows.specs.Views.{View}
use Rattle.flows.specs.declared.bounds.StageBounds.{StageBounds}
use Rattle.flows.specs.declared.flow.Flow.{Ghosts}
use Rattle.stages.specs.Opens.{open_course, open_count, open_views}

-- the bounds that are printed of a join
abbrev pub join_figures : Pair → StageBounds
join_figures p = record { kind = JoinKind; wait = 0; delay = 0; pair = p; rest = None }

module _ {X Y : Type 0} (A : Ghosts X) (B : Ghosts Y) where
  -- what both flows hand over together arrives and passes in the same tick
  abbrev pub joining_view : Bool → X → Y → Pair → View
  joining_view o x y p = record {
    arrived = open_course o (plus (A.course x) (B.course y));
    passed = open_course o (plus (A.course x) (B.course y));
    rest = λ _. 0;
    waits = λ _. 0;
    arriving = open_count o (at p.most 1);
    bounds = join_figures p;
  }

  -- the stages below, and all from this one down
  abbrev pub joining_below : Bool → X → Y → List View
  joining_below o x y = open_views o (A.views x ++ B.views y)

  abbrev pub joining_views : Bool → X → Y → Pair → List View
  joining_views o x y p = joining_view o x y p ∷ joining_below o x y
