use Rattle.std.proofs.Common.{◌≡◌, ◌+◌, ◌/◌, [], ◌∷◌, length, drop, get_or, sym, ap, ◌∙◌, rules}
use Rattle.std.proofs.lemmas.List.{at_drop_all, at_drop_more}
use Rattle.tables.specs.Tables.{curves}
use Rattle.book.specs.Books.{book_result, chained}
use Rattle.book.proofs.Chaining.{chain_over, over_chunks}
use Rattle.book.proofs.analysis.makes.chain_of.Goals as goal

pub returns-in_err-line : goal.returns-in_err-line
returns-in_err-line c =
    let bs = c.args.others.now in
    let p = curves c.args.first in
    let a = chained c.loop-n.analysis in
    let n = c.loop-n.n-counter in
    let blocks = c.as_chunks.result.0.now in
    let left = chain_over a.first a.stages (curves c.loop-n.pair) (n + 1) in
    let refused : book_result c.from_residual.result ≡ left (get_or blocks n [] ∷ drop (n + 1) blocks) = search rules in
    refused ∙ sym (over_chunks p [] p 1 (length bs / 512) bs ∙ ap (chain_over p [] p 1) (sym c.as_chunks.ensures.front) ∙ c.loop-n.invariant.1 ∙ at_drop_more left blocks n [] c.loop-n-test.true)

pub returns : goal.returns
returns c =
    let bs = c.args.others.now in
    let p = curves c.args.first in
    let a = chained c.loop-n.analysis in
    let n = c.loop-n.n-counter in
    let left = chain_over a.first a.stages (curves c.loop-n.pair) (n + 1) in
    sym (over_chunks p [] p 1 (length bs / 512) bs ∙ ap (chain_over p [] p 1) (sym c.as_chunks.ensures.front) ∙ c.loop-n.invariant.1 ∙ at_drop_all left c.as_chunks.result.0.now n c.loop-n-test.false)
