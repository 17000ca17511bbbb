-- What a block adds to a chain.
use Rattle.std.specs.Prelude.{ℕ, ◌*◌, Bool, cond, ◌&&◌, List, take, drop, Ok, Err, Result, ◌==◌}
use Rattle.tables.specs.Bounds.{Serving, Shaping, server_answer, shaper_answer, join_answer}
use Rattle.tables.specs.Makes.{framed, table_answer, pair_answer}
use Rattle.tables.specs.Tables.{Curve, Curves, curves}
use Rattle.tables.specs.declared.refusal.Refusal.{Refusal}
use Rattle.tables.specs.declared.refusal.Refusal.TheVariants.{Kind, Frame, Table as Lawless}
use Rattle.book.specs.Layout.{all_zero, entries}
use Rattle.book.specs.Reads.{Read, read_answer}
use Rattle.book.specs.declared.line.Line.{Line}
use Rattle.tables.specs.declared.bounds.StageKind.{StageKind}
use Rattle.tables.specs.declared.bounds.StageKind.TheVariants.{Server, Shaper, Join}

-- what follows of a value, or its refusal
abbrev pub and_then : {X Y : Type 0} → Result X Refusal → (X → Result Y Refusal) → Result Y Refusal
and_then (Ok x) f = f x
and_then (Err e) f = Err e

-- the entries of the frame
abbrev pub kept : ℕ → List ℕ → List ℕ
kept n bs = take n (entries bs)

-- the entries past the frame are 0, three bytes each
abbrev pub padded : ℕ → List ℕ → Bool
padded n bs = all_zero (drop (3 * n) bs)

-- the pair of a block
abbrev pub block_pair : Read → Result Curves Refusal
block_pair r =
    cond (framed r.frame)
    (cond (padded r.frame r.most && padded r.frame r.least) (pair_answer (kept r.frame r.most) (kept r.frame r.least)) (Err Lawless))
    (Err Frame)

-- the table of a shaping block, whose least is all 0
abbrev pub block_table : Read → Result Curve Refusal
block_table r =
    cond (framed r.frame)
    (cond (padded r.frame r.most && padded 0 r.least) (table_answer (kept r.frame r.most)) (Err Lawless))
    (Err Frame)

-- a stage of the chain: its kind, its bounds, and the pair that it hands on
pub record Staged : Type 0 where
  pub stage : StageKind
  pub wait : ℕ
  pub delay : ℕ
  pub pair : Curves

abbrev pub staged : Line → Staged
staged l = record { stage = l.stage; wait = l.wait; delay = l.delay; pair = curves l.pair }

abbrev pub joining : Curves → Staged
joining p = record { stage = Join; wait = 0; delay = 0; pair = p }

abbrev pub serving_line : Serving → Staged
serving_line b = record { stage = Server; wait = b.wait; delay = b.delay; pair = b.passed }

abbrev pub shaping_line : Shaping → Staged
shaping_line b = record { stage = Shaper; wait = b.wait; delay = b.delay; pair = b.passed }

-- events join the chain whose pair is p
abbrev pub joins : Curves → Read → Result Staged Refusal
joins p r = and_then (block_pair r) (λ q. and_then (join_answer p q) (λ j. Ok (joining j)))

-- service serves it
abbrev pub serves : Curves → Read → Result Staged Refusal
serves p r = and_then (block_pair r) (λ s. and_then (server_answer p s) (λ b. Ok (serving_line b)))

-- shaping shapes it
abbrev pub shapes : Curves → Read → Result Staged Refusal
shapes p r = and_then (block_table r) (λ h. and_then (shaper_answer p h) (λ b. Ok (shaping_line b)))

-- one of the three by the kind, where the frames are the same
abbrev pub stage_answer : Curves → Read → Result Staged Refusal
stage_answer p r =
    cond (r.frame == p.frame)
    (cond (r.kind == 1) (joins p r) (cond (r.kind == 2) (serves p r) (shapes p r)))
    (Err Frame)

-- the block b after a chain whose pair is p
abbrev pub next_answer : Curves → List ℕ → Result Staged Refusal
next_answer p b = and_then (read_answer b) (stage_answer p)

-- the first block starts the chain, and is events
abbrev pub first_answer : List ℕ → Result Curves Refusal
first_answer b = and_then (read_answer b) (λ r. cond (r.kind == 1) (block_pair r) (Err Kind))
