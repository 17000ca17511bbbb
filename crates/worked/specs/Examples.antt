-- Worked examples: what the definitions that the contracts cite give on a few numbers.
use Rattle.std.specs.Prelude.{◌≡◌, ℕ, ◌+◌, true, List, [], ◌∷◌, replicate, Ok, Err, Result}
use Rattle.tables.specs.Bottoms.{steady_answer, clocked_answer, slotted_answer}
use Rattle.tables.specs.Bounds.{Serving, Shaping, server_answer, shaper_answer}
use Rattle.tables.specs.Courses.{slotted, recorded}
use Rattle.tables.specs.Curves.{given, repeated, subadditive}
use Rattle.tables.specs.Makes.{answer, table_answer, pair_answer}
use Rattle.tables.specs.Tables.{Curves, row}
use Rattle.tables.specs.declared.refusal.Refusal.{Refusal}
use Rattle.tables.specs.declared.refusal.Refusal.TheVariants.{Frame, Table as Lawless, Shape, Overload, Promise}
use Rattle.courses.specs.Steps.{empty, server_after, served, shaped}
use Rattle.flows.specs.Checks.{recorded_answer}
use Rattle.worked.specs.Answers.{on, on_both, shown, rows, server_rows, shaper_rows, passed_by, left_by, ticks}

abbrev pub events : Result Curves Refusal
events = pair_answer (2 ∷ 3 ∷ 3 ∷ 4 ∷ []) (0 ∷ 0 ∷ 1 ∷ 2 ∷ [])

abbrev pub slots : List ℕ
slots = 0 ∷ 2 ∷ 1 ∷ 1 ∷ []

abbrev pub server : Result Serving Refusal
server = on_both events (slotted_answer slots) server_answer

-- a server with the events on the slots
pub record Serves : Type 0 where
  pub events_are : answer rows events ≡ Ok (record { most = 2 ∷ 3 ∷ 3 ∷ 4 ∷ []; least = 0 ∷ 0 ∷ 1 ∷ 2 ∷ [] })
  pub slots_are : answer rows (slotted_answer slots) ≡ Ok (record { most = 2 ∷ 3 ∷ 4 ∷ 4 ∷ []; least = 0 ∷ 1 ∷ 2 ∷ 4 ∷ [] })
  pub bounds : answer server_rows server ≡ Ok (record {
    settling = 4;
    wait = 2;
    delay = 2;
    passed = record { most = 2 ∷ 3 ∷ 4 ∷ 4 ∷ []; least = 0 ∷ 0 ∷ 0 ∷ 1 ∷ [] };
    rest = record { most = 2 ∷ 3 ∷ 3 ∷ 3 ∷ []; least = 0 ∷ 0 ∷ 0 ∷ 0 ∷ [] };
  })

-- a shaper of one message in each tick, above that server
abbrev pub shaper : Result Shaping Refusal
shaper = on_both (passed_by server) (table_answer (1 ∷ 2 ∷ 3 ∷ 4 ∷ [])) shaper_answer

pub record Shapes : Type 0 where
  pub bounds : answer shaper_rows shaper ≡ Ok (record {
    wait = 1;
    delay = 1;
    passed = record { most = 1 ∷ 2 ∷ 3 ∷ 4 ∷ []; least = 0 ∷ 0 ∷ 0 ∷ 1 ∷ [] };
  })

-- the events 2 1 0 1 at that server and that shaper, tick by tick
abbrev pub counts : ℕ → ℕ
counts = recorded (2 ∷ 1 ∷ 0 ∷ 1 ∷ [])

abbrev pub places : ℕ → ℕ
places = slotted 4 (recorded slots)

pub record Runs : Type 0 where
  pub passed : ticks 4 (served 0 counts places) ≡ 0 ∷ 2 ∷ 1 ∷ 1 ∷ []
  pub waiting : row 4 (server_after 0 counts places) ≡ 2 ∷ 1 ∷ 0 ∷ 0 ∷ []
  pub through_shaper : ticks 4 (shaped 4 (repeated 4 (given (1 ∷ 2 ∷ 3 ∷ 4 ∷ []))) empty (served 0 counts places)) ≡ 0 ∷ 1 ∷ 1 ∷ 1 ∷ []

-- a shaper with the table xs, above a flow of frame 4 that hands over nothing
abbrev pub shaper_of : List ℕ → Result Shaping Refusal
shaper_of xs = on_both (steady_answer 4 0) (table_answer xs) shaper_answer

-- the shaping rule; with the entry H k at the length k, the last of these tables has H 3 + H 3 below H 6
pub record Rules : Type 0 where
  pub keeps : subadditive 4 (repeated 4 (given (1 ∷ 1 ∷ 2 ∷ 2 ∷ []))) ≡ true
  pub accepts : answer shaper_rows (shaper_of (1 ∷ 1 ∷ 2 ∷ 2 ∷ [])) ≡ Ok (record {
    wait = 0;
    delay = 0;
    passed = record { most = replicate 4 0; least = replicate 4 0 };
  })
  pub refuses_within : shaper_of (1 ∷ 1 ∷ 1 ∷ 3 ∷ []) ≡ Err Shape
  pub refuses_past : shaper_of (1 ∷ 1 ∷ 1 ∷ 2 ∷ []) ≡ Err Shape
  pub at_three : repeated 4 (given (1 ∷ 1 ∷ 1 ∷ 2 ∷ [])) 3 + repeated 4 (given (1 ∷ 1 ∷ 1 ∷ 2 ∷ [])) 3 ≡ 2
  pub at_six : repeated 4 (given (1 ∷ 1 ∷ 1 ∷ 2 ∷ [])) 6 ≡ 3

-- a server on one place in every tick
abbrev pub on_steady : Result Serving Refusal
on_steady = on_both (pair_answer (2 ∷ 2 ∷ []) (0 ∷ 2 ∷ [])) (steady_answer 2 1) server_answer

pub record Steady : Type 0 where
  pub passed_least : answer (λ c. (rows c).least) (passed_by on_steady) ≡ Ok (0 ∷ 1 ∷ [])
  pub rest_most : answer (λ c. (rows c).most) (left_by on_steady) ≡ Ok (1 ∷ 1 ∷ [])

-- a server of frame 1 with at most one event in a tick, and l places at the least
abbrev pub shortest : ℕ → Result Serving Refusal
shortest l = on_both (pair_answer (1 ∷ []) (0 ∷ [])) (pair_answer (1 ∷ []) (l ∷ [])) server_answer

pub record Shortest : Type 0 where
  pub overload : shortest 0 ≡ Err Overload
  pub wait : answer (λ b. b.wait) (shortest 1) ≡ Ok 0
  pub delay : answer (λ b. b.delay) (shortest 1) ≡ Ok 0

-- the largest entry, and the lengths that no frame has
pub record Limits : Type 0 where
  pub largest : answer shown (table_answer (1000000 ∷ [])) ≡ Ok (1000000 ∷ [])
  pub too_large : table_answer (1000001 ∷ []) ≡ Err Lawless
  pub none : table_answer [] ≡ Err Frame
  pub longest : answer shown (table_answer (replicate 64 0)) ≡ Ok (replicate 64 0)
  pub too_long : table_answer (replicate 65 0) ≡ Err Frame
  pub no_frame : steady_answer 0 0 ≡ Err Frame
  pub frame_too_long : steady_answer 65 0 ≡ Err Frame

-- a clock of period 5 and jitter 2
pub record Clocks : Type 0 where
  pub pair : answer rows (clocked_answer 8 5 2) ≡ Ok (record {
    most = 1 ∷ 1 ∷ 1 ∷ 2 ∷ 2 ∷ 2 ∷ 2 ∷ 2 ∷ [];
    least = 0 ∷ 0 ∷ 0 ∷ 0 ∷ 0 ∷ 0 ∷ 1 ∷ 1 ∷ [];
  })

-- recorded counts under a most table
abbrev pub promised : List ℕ → Result Curves Refusal
promised xs = on (table_answer (2 ∷ 3 ∷ 3 ∷ 4 ∷ [])) (λ t. recorded_answer t xs)

pub record Records : Type 0 where
  pub refuses : promised (2 ∷ 2 ∷ []) ≡ Err Promise
  pub accepts_none : answer rows (promised []) ≡ Ok (record { most = 2 ∷ 3 ∷ 3 ∷ 4 ∷ []; least = replicate 4 0 })
  pub accepts : answer rows (promised (2 ∷ 1 ∷ 0 ∷ 1 ∷ [])) ≡ answer rows (promised [])
