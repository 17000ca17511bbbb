-- The stages tick by tick, from any state.
use Rattle.std.specs.Prelude.{ℕ, zero, suc, ◌+◌, ◌-◌, min, List, ◌∷◌, take, replicate, sum as total}
use Rattle.tables.specs.Limits.{longest}
use Rattle.tables.specs.Ranges.{smallest}

-- the state after t ticks: x before the first, and next t takes it through tick t + 1
abbrev pub after : {X : Type 0} → (ℕ → X → X) → X → ℕ → X
after next x zero = x
after next x (suc t) = next t (after next x t)

-- what a server with w waiting passes in a tick with x events and y places
abbrev pub serve : ℕ → ℕ → ℕ → ℕ
serve w x y = min (w + x) y

-- and what waits then
abbrev pub server_next : ℕ → ℕ → ℕ → ℕ
server_next w x y = w + x - serve w x y

-- what waits at a server after t ticks, w before them
unfoldable pub server_after : ℕ → (ℕ → ℕ) → (ℕ → ℕ) → ℕ → ℕ
server_after w a c = after (λ t v. server_next v (a t) (c t)) w

-- the course that it passes
unfoldable pub served : ℕ → (ℕ → ℕ) → (ℕ → ℕ) → ℕ → ℕ
served w a c t = serve (server_after w a c t) (a t) (c t)

-- the state of a shaper: what waits, and what it passed in the last ticks, the newest first, as many as the longest frame has
pub record Shaping : Type 0 where
  pub backlog : ℕ
  pub past : List ℕ

-- the state at power-on
abbrev pub empty : Shaping
empty = record { backlog = 0; past = replicate longest 0 }

-- what a shaper with the table h of frame N passes in a tick with x events
abbrev pub shape : ℕ → (ℕ → ℕ) → Shaping → ℕ → ℕ
shape N h s x = min (s.backlog + x) (smallest (N - 1) (λ k. h (k + 1) - total (take k s.past)))

-- and its state then
abbrev pub shaper_next : ℕ → (ℕ → ℕ) → Shaping → ℕ → Shaping
shaper_next N h s x = record { backlog = s.backlog + x - shape N h s x; past = shape N h s x ∷ take (longest - 1) s.past }

-- the state of a shaper after t ticks, s before them
unfoldable pub shaper_after : ℕ → (ℕ → ℕ) → Shaping → (ℕ → ℕ) → ℕ → Shaping
shaper_after N h s a = after (λ t r. shaper_next N h r (a t)) s

-- the course that it passes
unfoldable pub shaped : ℕ → (ℕ → ℕ) → Shaping → (ℕ → ℕ) → ℕ → ℕ
shaped N h s a t = shape N h (shaper_after N h s a t) (a t)
