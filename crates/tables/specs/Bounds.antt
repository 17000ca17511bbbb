-- What each stage makes of the pairs below it: its bounds, or a refusal.
use Rattle.std.specs.Prelude.{ℕ, ◌+◌, ◌-◌, cond, Some, None, Ok, Err, Option, Result, ◌==◌, nat_le}
use Rattle.tables.specs.Curves.{convolved, excess, growth, settling_length, shortest_delay, subadditive, most_passed}
use Rattle.tables.specs.Limits.{limit}
use Rattle.tables.specs.Tables.{Curve, Curves, curves, paired}
use Rattle.tables.specs.declared.refusal.Refusal.{Refusal}
use Rattle.tables.specs.declared.refusal.Refusal.TheVariants.{Frame, Shape, Overload, Crowd}
use Rattle.tables.specs.declared.bounds.ServerBounds.{ServerBounds}
use Rattle.tables.specs.declared.bounds.ShaperBounds.{ShaperBounds}

-- the bounds of a server: its settling length, how many messages wait at most and for how many ticks, what it passes and what it leaves
pub record Serving : Type 0 where
  pub settling : ℕ
  pub wait : ℕ
  pub delay : ℕ
  pub passed : Curves
  pub rest : Curves

abbrev pub serving : ServerBounds → Serving
serving b = record { settling = b.settling; wait = b.wait; delay = b.delay; passed = curves b.passed; rest = curves b.rest }

abbrev pub pair_of_passed : Curves → Curves → ℕ → Curves
pair_of_passed e s d = paired e.frame (most_passed d e.most s.most s.least) (convolved e.least s.least)

abbrev pub pair_of_rest : Curves → Curves → Curves
pair_of_rest e s = paired e.frame (excess s.most e.least) (excess s.least e.most)

-- the bounds where d is the settling length
abbrev pub settled : Curves → Curves → ℕ → Serving
settled e s d = record {
  settling = d;
  wait = excess e.most s.least d;
  delay = shortest_delay d e.most s.least;
  passed = pair_of_passed e s d;
  rest = pair_of_rest e s;
}

abbrev pub if_settled : Curves → Curves → Option ℕ → Result Serving Refusal
if_settled e s None = Err Overload
if_settled e s (Some d) = Ok (settled e s d)

-- a server with the events e and the service s
abbrev pub server_answer : Curves → Curves → Result Serving Refusal
server_answer e s = cond (e.frame == s.frame) (if_settled e s (settling_length e.frame e.most s.least)) (Err Frame)

-- the bounds of a shaper
pub record Shaping : Type 0 where
  pub wait : ℕ
  pub delay : ℕ
  pub passed : Curves

abbrev pub shaping : ShaperBounds → Shaping
shaping b = record { wait = b.wait; delay = b.delay; passed = curves b.passed }

abbrev pub shaped_pair : Curves → Curve → Curves
shaped_pair e h = paired e.frame (convolved e.most h.count) (convolved e.least (growth (e.frame - 1) h.count))

abbrev pub shaped : Curves → Curve → Shaping
shaped e h = record {
  wait = excess e.most h.count e.frame;
  delay = shortest_delay e.frame e.most h.count;
  passed = shaped_pair e h;
}

-- a shaper with the events e and the shaping table h
abbrev pub shaper_answer : Curves → Curve → Result Shaping Refusal
shaper_answer e h =
    cond (e.frame == h.frame)
    (cond (subadditive h.frame h.count)
    (cond (nat_le (e.most e.frame) (h.count e.frame)) (Ok (shaped e h)) (Err Overload))
    (Err Shape))
    (Err Frame)

abbrev pub joined_pair : Curves → Curves → Curves
joined_pair a b = paired a.frame (λ k. a.most k + b.most k) (λ k. a.least k + b.least k)

-- a join of a and b
abbrev pub join_answer : Curves → Curves → Result Curves Refusal
join_answer a b =
    cond (a.frame == b.frame)
    (cond (nat_le (a.most a.frame + b.most a.frame) limit)
    (Ok (joined_pair a b))
    (Err Crowd))
    (Err Frame)
