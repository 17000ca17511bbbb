use Rattle.std.proofs.Common.{◌≡◌, true, length, sym, ap, ◌∙◌, rules}
use Rattle.std.proofs.lemmas.Bool.{cond-true, eq-eqb}
use Rattle.book.specs.Layout.{checked}
use Rattle.book.specs.Reads.{parted_answer}
use Rattle.book.proofs.block.Block.read.Goals as goal

pub returns : goal.returns
returns c =
    let b = c.args.block.now in
    let same : c.in_ok-block.block.now ≡ b = search rules in
    let long : length b ≡ 512 = search rules in
    let right : checked b ≡ true = search rules in
    c.parted.ensures ∙ ap parted_answer same ∙ sym (cond-true _ _ _ (eq-eqb (length b) 512 long) ∙ cond-true _ _ _ right)
