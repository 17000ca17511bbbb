-- What is claimed of courses and stages up to a tick T, for every T. What a claim rests on lies at or before T.
use Rattle.std.specs.Prelude.{◌≡◌, ℕ, ◌+◌, ◌-◌, ◌≤◌, true, List, length, take, sum as total}
use Rattle.tables.specs.Limits.{longest}
use Rattle.tables.specs.Ranges.{smallest}
use Rattle.tables.specs.Curves.{Graph, repeated, convolved, excess, growth, shortest_delay, subadditive, most_passed}
use Rattle.courses.specs.Bottoms.{steady, clocked}
use Rattle.courses.specs.Courses.{KeepsTo, Keeps, SameTo, plus, waiting, ServesTo, rest, lately, ShapesTo}
use Rattle.courses.specs.Steps.{server_after, served, Shaping, empty, shaper_after, shaped}
use Rattle.tables.specs.Courses.{later, recorded, slotted, sum}
use Rattle.tables.specs.Bottoms.{clocked_least, clocked_most, line, slotted_least, slotted_most}

-- all that arrived has passed or waits, and what passed by t is the smallest, over v ≤ t, of what arrived by v and what β lets through from v to t
pub record Passes (T : ℕ) (a p : ℕ → ℕ) (β : ℕ → ℕ → ℕ) : Type 0 where
  pub account : (t : ℕ) → t ≤ T → sum p t + waiting a p t ≡ sum a t
  pub passed : (t : ℕ) → t ≤ T → sum p t ≡ smallest t (λ v. sum a v + β v t)

-- the bounds of a stage with the arrival curve f, the service curve g and the settling length n: what waits, when all is out, and what passes
pub record Bounds (T n : ℕ) (f g most least a p : ℕ → ℕ) : Type 0 where
  pub waits : (t : ℕ) → t ≤ T → waiting a p t ≤ excess f g n
  pub out : (d : ℕ) → ((k : ℕ) → k ≤ n → f k ≤ g (k + d)) → (t : ℕ) → t + d ≤ T → sum a t ≤ sum p (t + d)
  pub in_time : ((k : ℕ) → f k ≤ f (k + 1)) → ((k : ℕ) → g k ≤ g (k + 1)) → (t : ℕ) → t + shortest_delay n f g ≤ T → sum a t ≤ sum p (t + shortest_delay n f g)
  pub keeps : KeepsTo T most least p

-- what a server passed is the smallest, over v, of what arrived by v and the service since; with the rest it makes up the service
abbrev pub Served : Type 0
Served = (T : ℕ) (a c p : ℕ → ℕ) → ServesTo T a c p
    → Passes T a p (λ v t. sum c t - sum c v) × ((t : ℕ) → t ≤ T → sum (rest c p) t + sum p t ≡ sum c t)

-- its bounds
abbrev pub Server : Type 0
Server = (T D : ℕ) (mE lE mS lS a c p : ℕ → ℕ) → KeepsTo T mE lE a → KeepsTo T mS lS c → ServesTo T a c p → 1 ≤ D → mE D ≤ lS D
    → Bounds T D mE lS (most_passed D mE mS lS) (convolved lE lS) a p × KeepsTo T (excess mS lE) (excess lS mE) (rest c p)

-- and the same of the tables of these curves
abbrev pub ServerTables : Type 0
ServerTables = (T N D : ℕ) (mE lE mS lS a c p : ℕ → ℕ) → 1 ≤ N → KeepsTo T mE lE a → KeepsTo T mS lS c → ServesTo T a c p → 1 ≤ D → mE D ≤ lS D
    → KeepsTo T (repeated N (most_passed D mE mS lS)) (repeated N (convolved lE lS)) p
    × KeepsTo T (repeated N (excess mS lE)) (repeated N (excess lS mE)) (rest c p)

-- what a greedy shaper passed is the smallest, over v, of what arrived by v and the shaping curve at the ticks since
abbrev pub Shaped : Type 0
Shaped = (T N : ℕ) (h a p : ℕ → ℕ) → Graph N h → subadditive N (repeated N h) ≡ true → ShapesTo T N h a p → Passes T a p (λ v t. repeated N h (t - v))

-- its bounds
abbrev pub Shaper : Type 0
Shaper = (T N : ℕ) (h mE lE a p : ℕ → ℕ) → Graph N h → subadditive N (repeated N h) ≡ true → KeepsTo T mE lE a → ShapesTo T N h a p → mE N ≤ repeated N h N
    → Bounds T N mE (repeated N h) (convolved mE (repeated N h)) (convolved lE (growth (N - 1) (repeated N h))) a p

-- and the same of the tables of these curves
abbrev pub ShaperTables : Type 0
ShaperTables = (T N : ℕ) (h mE lE a p : ℕ → ℕ) → Graph N h → subadditive N (repeated N h) ≡ true → KeepsTo T mE lE a → ShapesTo T N h a p → mE N ≤ repeated N h N
    → KeepsTo T (repeated N (convolved mE (repeated N h))) (repeated N (convolved lE (growth (N - 1) (repeated N h)))) p

-- courses together keep the curves together, and the table of these
abbrev pub Join : Type 0
Join = (T N : ℕ) (mA lA mB lB a b : ℕ → ℕ) → 1 ≤ N → KeepsTo T mA lA a → KeepsTo T mB lB b
    → KeepsTo T (plus mA mB) (plus lA lB) (plus a b) × KeepsTo T (repeated N (plus mA mB)) (repeated N (plus lA lB)) (plus a b)

-- what is kept up to the frame is kept by the repeated tables at every length
abbrev pub Frames : Type 0
Frames = (T N : ℕ) (most least a : ℕ → ℕ) → 1 ≤ N
    → ((i k : ℕ) → k ≤ N → i + k ≤ T → sum a (i + k) ≤ sum a i + most k)
    → ((i k : ℕ) → k ≤ N → i + k ≤ T → sum a i + least k ≤ sum a (i + k))
    → KeepsTo T (repeated N most) (repeated N least) a

-- the shaping rule up to the frame gives it at every length
abbrev pub Subadditive : Type 0
Subadditive = (N : ℕ) (h : ℕ → ℕ) → Graph N h → subadditive N (repeated N h) ≡ true → (i k : ℕ) → repeated N h (i + k) ≤ repeated N h i + repeated N h k

-- what is kept is kept later on, up to an earlier tick, and by a course that is the same up to T
abbrev pub Kept : Type 0
Kept = ((T n : ℕ) (most least a : ℕ → ℕ) → KeepsTo (n + T) most least a → KeepsTo T most least (later n a))
    × ((S T : ℕ) (most least a : ℕ → ℕ) → S ≤ T → KeepsTo T most least a → KeepsTo S most least a)
    × ((T : ℕ) (most least a b : ℕ → ℕ) → SameTo T a b → KeepsTo T most least a → KeepsTo T most least b)

-- a server tick by tick: it keeps the rule from power-on, as no other course does, and goes on from a state that it reached
pub record ServerSteps (a c : ℕ → ℕ) : Type 0 where
  pub rule : (T : ℕ) → ServesTo T a c (served 0 a c)
  pub only : (T : ℕ) (p : ℕ → ℕ) → ServesTo T a c p → SameTo T p (served 0 a c)
  pub account : (w t : ℕ) → sum (served w a c) t + server_after w a c t ≡ w + sum a t
  pub state_later : (w n : ℕ) → server_after (server_after w a c n) (later n a) (later n c) ≡ later n (server_after w a c)
  pub course_later : (w n : ℕ) → served (server_after w a c n) (later n a) (later n c) ≡ later n (served w a c)

-- and a shaper, whose state has what it passed lately
pub record ShaperSteps (N : ℕ) (h a : ℕ → ℕ) : Type 0 where
  pub rule : N ≤ longest → (T : ℕ) → ShapesTo T N h a (shaped N h empty a)
  pub only : N ≤ longest → (T : ℕ) (p : ℕ → ℕ) → ShapesTo T N h a p → SameTo T p (shaped N h empty a)
  pub account : (s : Shaping) (t : ℕ) → sum (shaped N h s a) t + (shaper_after N h s a t).backlog ≡ s.backlog + sum a t
  pub before : (t k : ℕ) → k ≤ longest → total (take k (shaper_after N h empty a t).past) ≡ lately (shaped N h empty a) t k
  pub state_later : (s : Shaping) (n : ℕ) → shaper_after N h (shaper_after N h s a n) (later n a) ≡ later n (shaper_after N h s a)
  pub course_later : (s : Shaping) (n : ℕ) → shaped N h (shaper_after N h s a n) (later n a) ≡ later n (shaped N h s a)

-- the stages tick by tick
abbrev pub Steps : Type 0
Steps = ((a c : ℕ → ℕ) → ServerSteps a c) × ((N : ℕ) (h a : ℕ → ℕ) → ShaperSteps N h a)

-- what a stage passes up to T follows from what came up to T
abbrev pub Causal : Type 0
Causal = ((T w : ℕ) (a b c d : ℕ → ℕ) → SameTo T a b → SameTo T c d → SameTo T (served w a c) (served w b d))
    × ((T N : ℕ) (h : ℕ → ℕ) (s : Shaping) (a b : ℕ → ℕ) → SameTo T a b → SameTo T (shaped N h s a) (shaped N h s b))

-- the bottom flows keep their curves
abbrev pub Bottoms : Type 0
Bottoms = ((c : ℕ) → Keeps (line c) (line c) (steady c))
    × ((p j : ℕ) → 1 ≤ p → Keeps (clocked_most p j) (clocked_least p j) (clocked p j) × ((t : ℕ) → sum (clocked p j) t ≡ clocked_most p j t))
    × ((N : ℕ) (s : ℕ → ℕ) → 1 ≤ N → Keeps (slotted_most N s) (slotted_least N s) (slotted N s))
    × ((N : ℕ) (most : ℕ → ℕ) (xs : List ℕ) → Graph N most
    → ((i k : ℕ) → k ≤ N → i + k ≤ length xs → sum (recorded xs) (i + k) ≤ sum (recorded xs) i + most k)
    → Keeps (repeated N most) (repeated N (λ k. 0)) (recorded xs))
