-- A server field by field: what waits in it, None where it is closed, the flows below, and its bounds.
use Rattle.std.specs.Prelude.{ℕ, List, ◌∷◌, ◌++◌, Some, Option, is_some}
use Rattle.std.specs.Option.{unwrap_or}
use Rattle.tables.specs.Tables.{at}
use Rattle.tables.specs.declared.bounds.ServerBounds.{ServerBounds}
use Rattle.tables.specs.declared.bounds.StageKind.TheVariants.{Server as ServerKind}
use Rattle.courses.specs.Courses.{rest}
use Rattle.courses.specs.Steps.{server_after, served}
use Rattle.flows.specs.Views.{View}
use Rattle.flows.specs.declared.bounds.StageBounds.{StageBounds}
use Rattle.flows.specs.declared.flow.Flow.{Ghosts}
use Rattle.stages.specs.Opens.{open_course, open_count, open_views}

-- the bounds that are printed of a server
abbrev pub server_figures : ServerBounds → StageBounds
server_figures b = record { kind = ServerKind; wait = b.wait; delay = b.delay; pair = b.passed; rest = Some b.rest }

module _ {X Y : Type 0} (E : Ghosts X) (S : Ghosts Y) where
  -- what comes in each coming tick, what it passes by its rule from what waits and the courses below, what it leaves of the service, and what waits after each number of ticks
  abbrev pub serving_view : Option ℕ → X → Y → ServerBounds → View
  serving_view w x y b = record {
    arrived = open_course (is_some w) (E.course x);
    passed = open_course (is_some w) (served (unwrap_or w 0) (E.course x) (S.course y));
    rest = open_course (is_some w) (rest (S.course y) (served (unwrap_or w 0) (E.course x) (S.course y)));
    waits = open_course (is_some w) (server_after (unwrap_or w 0) (E.course x) (S.course y));
    arriving = open_count (is_some w) (at (E.pair x).most 1);
    bounds = server_figures b;
  }

  -- the stages below, and all from this one down
  abbrev pub serving_below : Option ℕ → X → Y → List View
  serving_below w x y = open_views (is_some w) (E.views x ++ S.views y)

  abbrev pub serving_views : Option ℕ → X → Y → ServerBounds → List View
  serving_views w x y b = serving_view w x y b ∷ serving_below w x y
