use Rattle.std.proofs.Common.{◌≡◌, true, ◌&&◌, take, sym, ap, ◌∙◌}
use Rattle.std.proofs.lemmas.Bool.{cond-true, and_from}
use Rattle.tables.specs.Makes.{answer, framed, pair_answer}
use Rattle.tables.specs.Tables.{curves}
use Rattle.book.specs.Chains.{kept, padded}
use Rattle.book.proofs.Parts.{granted}
use Rattle.book.proofs.block.Entries.pair.Goals as goal

pub returns : goal.returns
returns c =
    let n = c.args.self.now.frame in
    let m = c.args.self.now.most.now in
    let l = c.args.self.now.least.now in
    let fits = granted (framed n) c.in_ok-frame.frame n _ c.in_ok-frame.ensures in
    let k = c.in_ok-frame.frame in
    let most = granted (padded k m) tt tt _ c.in_ok-check_padded.ensures in
    let least = granted (padded k l) tt tt _ c.in_ok-check_padded-2.ensures in
    let zeros : (padded n m && padded n l) ≡ true = and_from _ _ (ap (λ j. padded j m) (sym fits.1) ∙ most.0) (ap (λ j. padded j l) (sym fits.1) ∙ least.0) in
    let made : answer curves c.new.result ≡ pair_answer (kept n m) (kept n l) =
    c.new.ensures ∙ (λ i. pair_answer (take (fits.1 i) (c.decoded.ensures i)) (take (fits.1 i) (c.decoded-2.ensures i))) in
    made ∙ sym (cond-true _ _ _ fits.0 ∙ cond-true _ _ _ zeros)
