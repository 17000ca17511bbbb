use Rattle.std.proofs.Common.{◌≡◌, ◌-◌, ◌/◌, true, [], length, take, Ok, sym, ap, ◌∙◌, arith, rules}
use Rattle.std.proofs.lemmas.Bool.{cond-true}
use Rattle.std.proofs.lemmas.Bool.Decides.{nat_tests}
use Rattle.tables.specs.Tables.{curves}
use Rattle.book.specs.Books.{whole, book_result, or_turned, started, chain_on}
use Rattle.book.specs.Chains.{first_answer}
use Rattle.book.proofs.analysis.makes.analyse.Goals as goal

pub split_at-requires : goal.split_at-requires
unfolding whole
split_at-requires c = grind (arith, nat_tests)

pub chain_of-requires : goal.chain_of-requires
unfolding whole
chain_of-requires c = grind (arith, nat_tests)

pub returns : goal.returns
returns c =
    let b = c.args.book.now in
    let h : whole b ≡ true = search rules in
    let p = curves c.in_ok-pair.pair in
    let first : Ok p ≡ first_answer (take 512 b) = search rules in
    let count : length c.split_at.result.1.now / 512 ≡ length b / 512 - 1 = omega (arith, c.split_at.ensures.back_len) in
    let chain : book_result c.chain_of.result ≡ started b p = c.chain_of.ensures ∙ (λ i. chain_on p [] p 1 (count i) (c.split_at.ensures.back i)) in
    chain ∙ ap (λ r. or_turned 1 r (started b)) first ∙ sym (cond-true _ _ _ h)
