-- What a book means.
use Rattle.std.specs.Prelude.{ℕ, zero, suc, ◌-◌, ◌/◌, ◌%◌, Bool, cond, ◌&&◌, List, [], ◌∷◌, ◌++◌, map, length, take, drop, Ok, Err, Result, ◌==◌, nat_le}
use Rattle.tables.specs.Tables.{Curves, curves}
use Rattle.tables.specs.declared.refusal.Refusal.{Refusal}
use Rattle.tables.specs.declared.refusal.Refusal.TheVariants.{Length}
use Rattle.book.specs.Chains.{Staged, staged, first_answer, next_answer}
use Rattle.book.specs.declared.analysis.Analysis.{Analysis}
use Rattle.book.specs.declared.analysis.Refused.{Refused}

-- the pair of the first block, and the stages that the others make
pub record Chained : Type 0 where
  pub first : Curves
  pub stages : List Staged

abbrev pub chained : Analysis → Chained
chained a = record { first = curves a.first; stages = map staged (take a.count a.lines) }

-- a refusal and its block, counted from 1; 0 where the length is wrong
pub record Turned : Type 0 where
  pub refusal : Refusal
  pub block : ℕ

abbrev pub turned : Refused → Turned
turned r = record { refusal = r.refusal; block = r.block }

-- a book holds 1 to 32 whole blocks
unfoldable pub whole : List ℕ → Bool
whole bs = length bs % 512 == 0 && (nat_le 1 (length bs / 512) && nat_le (length bs / 512) 32)

-- what follows of a value, or its refusal at the block n
abbrev pub or_turned : {X Y : Type 0} → ℕ → Result X Refusal → (X → Result Y Turned) → Result Y Turned
or_turned n (Ok x) f = f x
or_turned n (Err e) f = Err (record { refusal = e; block = n })

-- the chain goes on: n blocks gave the first pair f and the stages done, the last of them hands on p, and bs begins with k blocks more
abbrev pub chain_on : Curves → List Staged → Curves → ℕ → ℕ → List ℕ → Result Chained Turned
chain_on f done p n zero bs = Ok (record { first = f; stages = done })
chain_on f done p n (suc k) bs = or_turned (suc n) (next_answer p (take 512 bs)) (λ s. chain_on f (done ++ s ∷ []) s.pair (suc n) k (drop 512 bs))

-- the chain of a book whose first block has the pair p
abbrev pub started : List ℕ → Curves → Result Chained Turned
started bs p = chain_on p [] p 1 (length bs / 512 - 1) (drop 512 bs)

-- the chain of a book, or the first block with a refusal
abbrev pub book_answer : List ℕ → Result Chained Turned
book_answer bs =
    cond (whole bs)
    (or_turned 1 (first_answer (take 512 bs)) (started bs))
    (Err (record { refusal = Length; block = 0 }))

-- an answer of the analysis, by what it says
abbrev pub book_result : Result Analysis Refused → Result Chained Turned
book_result (Ok a) = Ok (chained a)
book_result (Err r) = Err (turned r)
