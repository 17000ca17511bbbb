-- A server over two flows, of which only the promises are known.
use Rattle.std.specs.Prelude.{◌≡◌, ℕ, List, map, Ok, Err, Result}
use Rattle.tables.specs.Bounds.{Serving, serving, server_answer}
use Rattle.tables.specs.Tables.{curves, paired}
use Rattle.tables.specs.declared.refusal.Refusal.{Refusal}
use Rattle.flows.specs.Views.{View, tail, next_view}
use Rattle.flows.specs.declared.flow.Flow.{Ghosts}
use Rattle.stages.specs.Opens.{where_open}
use Rattle.stages.specs.ServerViews.{serving_view, serving_below, serving_views}
use Rattle.stages.specs.declared.server.Server.{Server}

-- the bounds of a closed server of frame n
abbrev pub closed_serving : ℕ → Serving
closed_serving n = record { settling = 0; wait = 0; delay = 0; passed = paired n (λ _. 0) (λ _. 0); rest = paired n (λ _. 0) (λ _. 0) }

abbrev pub serving_or_closed : ℕ → Result Serving Refusal → Serving
serving_or_closed n (Ok b) = b
serving_or_closed n (Err e) = closed_serving n

module _ {X Y : Type 0} (E : Ghosts X) (S : Ghosts Y) where
  abbrev pub server_view : Server X Y E S → View
  server_view s = serving_view E S s.waiting s.events s.service s.bounds

  -- what comes in each coming tick: events, and places for them
  abbrev pub arrival : Server X Y E S → ℕ → ℕ
  arrival s = (server_view s).arrived

  -- what it passes
  abbrev pub passing : Server X Y E S → ℕ → ℕ
  passing s = (server_view s).passed

  -- what it leaves of the service
  abbrev pub resting : Server X Y E S → ℕ → ℕ
  resting s = (server_view s).rest

  -- what waits after each number of ticks
  abbrev pub queue : Server X Y E S → ℕ → ℕ
  queue s = (server_view s).waits

  -- the stages below, and all from this one down
  abbrev pub server_below : Server X Y E S → List View
  server_below s = serving_below E S s.waiting s.events s.service

  abbrev pub server_views : Server X Y E S → List View
  server_views s = serving_views E S s.waiting s.events s.service s.bounds

  -- the answer of the tables to the pairs of two flows
  abbrev pub fits : X → Y → Result Serving Refusal
  fits e s = server_answer (curves (E.pair e)) (curves (S.pair s))

  -- a server as it is built: nothing waits, and its bounds are those of the tables, or it is closed
  pub record ServerBuilt (e : X) (s : Y) (r : Server X Y E S) : Type 0 where
    pub events : r.events ≡ e
    pub service : r.service ≡ s
    pub waiting : r.waiting ≡ where_open (fits e s) 0
    pub bounds : serving r.bounds ≡ serving_or_closed (E.pair e).most.frame (fits e s)

  -- a tick from s to t that passes p and leaves r
  pub record ServerTicked (s t : Server X Y E S) (p r : ℕ) : Type 0 where
    pub passed : p ≡ passing s 0
    pub rest : r ≡ resting s 0
    pub next : passing t ≡ tail (passing s)
    pub next_rest : resting t ≡ tail (resting s)
    pub same : t.bounds ≡ s.bounds
    pub top : server_view t ≡ next_view (server_view s)
    pub views : server_views t ≡ map next_view (server_views s)
