-- The chain of a book, by its blocks.
use Rattle.std.proofs.Common.{◌≡◌, ℕ, zero, suc, refl, List, [], ◌∷◌, ◌++◌, take, drop, Ok, Result}
use Rattle.tables.specs.Tables.{Curves}
use Rattle.std.specs.Simd.{first_chunks}
use Rattle.book.specs.Books.{Chained, Turned, or_turned, chain_on}
use Rattle.book.specs.Chains.{Staged, next_answer}

-- the chain goes on over blocks that are cut already
abbrev pub chain_over : Curves → List Staged → Curves → ℕ → List (List ℕ) → Result Chained Turned
chain_over f done p n [] = Ok (record { first = f; stages = done })
chain_over f done p n (b ∷ bs) = or_turned (suc n) (next_answer p b) (λ s. chain_over f (done ++ s ∷ []) s.pair (suc n) bs)

-- which is the chain over their bytes
pub over_chunks : (f : Curves) (done : List Staged) (p : Curves) (n k : ℕ) (bs : List ℕ) → chain_on f done p n k bs ≡ chain_over f done p n (first_chunks 512 k bs)
over_chunks f done p n zero bs = refl
over_chunks f done p n (suc k) bs = λ i. or_turned (suc n) (next_answer p (take 512 bs)) (λ s. over_chunks f (done ++ s ∷ []) s.pair (suc n) k (drop 512 bs) i)
