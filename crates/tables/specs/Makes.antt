-- What is made of given counts: a table, a pair, or a refusal.
use Rattle.std.specs.Prelude.{ℕ, Bool, cond, ◌&&◌, List, length, Ok, Err, Result, ◌==◌, nat_le}
use Rattle.tables.specs.Curves.{given, lawful, nowhere_above}
use Rattle.tables.specs.Limits.{longest}
use Rattle.tables.specs.Tables.{Curve, Curves, tabled, paired}
use Rattle.tables.specs.declared.refusal.Refusal.{Refusal}
use Rattle.tables.specs.declared.refusal.Refusal.TheVariants.{Frame, Table as Lawless}

-- an answer, by what its table or pair is to a reader
abbrev pub answer : {X Y : Type 0} → (X → Y) → Result X Refusal → Result Y Refusal
answer f (Ok x) = Ok (f x)
answer f (Err e) = Err e

-- n is the length of a frame
abbrev pub framed : ℕ → Bool
framed n = nat_le 1 n && nat_le n longest

-- the table of the counts xs at the lengths from 1 on
abbrev pub table_answer : List ℕ → Result Curve Refusal
table_answer xs =
    cond (framed (length xs))
    (cond (lawful (length xs) (given xs)) (Ok (tabled (length xs) (given xs))) (Err Lawless))
    (Err Frame)

-- both are lawful, and ys is nowhere above xs
abbrev pub lawful_pair : List ℕ → List ℕ → Bool
lawful_pair xs ys = lawful (length xs) (given xs) && (lawful (length xs) (given ys) && nowhere_above (length xs) (given xs) (given ys))

-- the pair of the counts xs at the most and ys at the least
abbrev pub pair_answer : List ℕ → List ℕ → Result Curves Refusal
pair_answer xs ys =
    cond (framed (length xs) && length ys == length xs)
    (cond (lawful_pair xs ys) (Ok (paired (length xs) (given xs) (given ys))) (Err Lawless))
    (Err Frame)
