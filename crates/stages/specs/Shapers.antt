-- A shaper over a flow, of which only the promises are known.
use Rattle.std.specs.Prelude.{◌≡◌, ℕ, List, map, Ok, Err, Result}
use Rattle.tables.specs.Bounds as bounds
use Rattle.tables.specs.Bounds.{shaping, shaper_answer}
use Rattle.tables.specs.Tables.{curve, curves, paired}
use Rattle.tables.specs.declared.refusal.Refusal.{Refusal}
use Rattle.tables.specs.declared.table.Table.{Table}
use Rattle.courses.specs.Steps.{Shaping, empty}
use Rattle.flows.specs.Views.{View, tail, next_view}
use Rattle.flows.specs.declared.flow.Flow.{Ghosts}
use Rattle.stages.specs.Opens.{where_open}
use Rattle.stages.specs.ShaperViews.{shaping_state, shaping_view, shaping_below, shaping_views}
use Rattle.stages.specs.declared.shaper.Shaper.{Shaper}

-- the bounds of a closed shaper of frame n
abbrev pub closed_shaping : ℕ → bounds.Shaping
closed_shaping n = record { wait = 0; delay = 0; passed = paired n (λ _. 0) (λ _. 0) }

abbrev pub shaping_or_closed : ℕ → Result bounds.Shaping Refusal → bounds.Shaping
shaping_or_closed n (Ok b) = b
shaping_or_closed n (Err e) = closed_shaping n

module _ {X : Type 0} (E : Ghosts X) where
  -- what waits and what was passed lately
  abbrev pub state : Shaper X E → Shaping
  state s = shaping_state s.waiting s.past

  abbrev pub shaper_view : Shaper X E → View
  shaper_view s = shaping_view E s.waiting s.past s.events s.shaping s.bounds

  abbrev pub shaper_arrival : Shaper X E → ℕ → ℕ
  shaper_arrival s = (shaper_view s).arrived

  -- what it passes
  abbrev pub shaping_course : Shaper X E → ℕ → ℕ
  shaping_course s = (shaper_view s).passed

  -- what waits after each number of ticks
  abbrev pub shaper_queue : Shaper X E → ℕ → ℕ
  shaper_queue s = (shaper_view s).waits

  -- the stages below, and all from this one down
  abbrev pub shaper_below : Shaper X E → List View
  shaper_below s = shaping_below E s.waiting s.events

  abbrev pub shaper_views : Shaper X E → List View
  shaper_views s = shaping_views E s.waiting s.past s.events s.shaping s.bounds

  -- the answer of the tables to the pair of a flow and a shaping table
  abbrev pub shaper_fits : X → Table → Result bounds.Shaping Refusal
  shaper_fits e h = shaper_answer (curves (E.pair e)) (curve h)

  -- a shaper as it is built
  pub record ShaperBuilt (e : X) (h : Table) (r : Shaper X E) : Type 0 where
    pub events : r.events ≡ e
    pub table : r.shaping ≡ h
    pub waiting : r.waiting ≡ where_open (shaper_fits e h) 0
    pub idle : state r ≡ empty
    pub bounds : shaping r.bounds ≡ shaping_or_closed (E.pair e).most.frame (shaper_fits e h)

  -- a tick from s to t that passes p
  pub record ShaperTicked (s t : Shaper X E) (p : ℕ) : Type 0 where
    pub passed : p ≡ shaping_course s 0
    pub next : shaping_course t ≡ tail (shaping_course s)
    pub same : t.bounds ≡ s.bounds
    pub top : shaper_view t ≡ next_view (shaper_view s)
    pub views : shaper_views t ≡ map next_view (shaper_views s)
