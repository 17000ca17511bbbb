use Rattle.std.proofs.Common.{◌≡◌, ◌+◌, [], drop}
use Rattle.tables.specs.Tables.{curves}
use Rattle.book.specs.Books.{chained}
use Rattle.book.proofs.Chaining.{chain_over}
use Rattle.book.proofs.analysis.makes.chain_of.Given as goal

-- what is left of the blocks, after what is done, is the whole of them
abbrev pub invariant-loop-n : goal.invariant-loop-n
invariant-loop-n l =
    (l.analysis.count ≡ l.n-counter)
    × (chain_over (curves l.initial.pair) [] (curves l.initial.pair) 1 l.blocks
    ≡ chain_over (chained l.analysis).first (chained l.analysis).stages (curves l.pair) (l.n-counter + 1) (drop l.n-counter l.blocks))
