-- A shaper field by field: what waits in it, None where it is closed, what it passed lately, the flow below, its table and its bounds.
use Rattle.std.specs.Prelude.{ℕ, List, ◌∷◌, None, Option, is_some}
use Rattle.std.specs.Option.{unwrap_or}
use Rattle.tables.specs.Tables.{at}
use Rattle.tables.specs.declared.bounds.ShaperBounds.{ShaperBounds}
use Rattle.tables.specs.declared.bounds.StageKind.TheVariants.{Shaper as ShaperKind}
use Rattle.tables.specs.declared.table.Table.{Table}
use Rattle.courses.specs.Steps.{Shaping, shaper_after, shaped}
use Rattle.flows.specs.Views.{View}
use Rattle.flows.specs.declared.bounds.StageBounds.{StageBounds}
use Rattle.flows.specs.declared.flow.Flow.{Ghosts}
use Rattle.stages.specs.Opens.{open_course, open_count, open_views}

-- the bounds that are printed of a shaper
abbrev pub shaper_figures : ShaperBounds → StageBounds
shaper_figures b = record { kind = ShaperKind; wait = b.wait; delay = b.delay; pair = b.passed; rest = None }

-- what waits and what was passed lately
abbrev pub shaping_state : Option ℕ → List ℕ → Shaping
shaping_state w past = record { backlog = unwrap_or w 0; past = past }

module _ {X : Type 0} (E : Ghosts X) where
  -- what comes in each coming tick, what it passes by its rule from what waits, what was passed lately and the course below, and what waits after each number of ticks
  abbrev pub shaping_view : Option ℕ → List ℕ → X → Table → ShaperBounds → View
  shaping_view w past x h b = record {
    arrived = open_course (is_some w) (E.course x);
    passed = open_course (is_some w) (shaped h.frame (at h) (shaping_state w past) (E.course x));
    rest = λ _. 0;
    waits = open_course (is_some w) (λ t. (shaper_after h.frame (at h) (shaping_state w past) (E.course x) t).backlog);
    arriving = open_count (is_some w) (at (E.pair x).most 1);
    bounds = shaper_figures b;
  }

  -- the stages below, and all from this one down
  abbrev pub shaping_below : Option ℕ → X → List View
  shaping_below w x = open_views (is_some w) (E.views x)

  abbrev pub shaping_views : Option ℕ → List ℕ → X → Table → ShaperBounds → List View
  shaping_views w past x h b = shaping_view w past x h b ∷ shaping_below w x
