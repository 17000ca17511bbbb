use Rattle.std.proofs.Common.{◌≡◌, ◌*◌, true, leb, Ok, sym, ap, ◌∙◌, arith, rules}
use Rattle.std.proofs.lemmas.Bool.{le-leb, cond-true}
use Rattle.tables.specs.Bottoms.{line}
use Rattle.tables.specs.Limits.{limit}
use Rattle.tables.specs.Makes.{framed}
use Rattle.tables.proofs.Clocks.{line_graph}
use Rattle.tables.proofs.Pairs.{shows_curves}
use Rattle.tables.proofs.bottoms.steady.steady_pair.Goals as goal

pub of-table-requires-clause-graph : goal.of-table-requires-clause-graph
of-table-requires-clause-graph c =
    let long = c.in_ok-check_frame.ensures.within in
    let wide = ap (λ n. n * c.args.frame) c.from.ensures in
    (line c.args.count, line_graph c.args.frame c.args.count (omega arith) (omega arith) (omega arith), λ k r h gives. search rules)

pub returns : goal.returns
returns c =
    let n = c.args.frame in
    let fits : framed n ≡ true = search rules in
    let wide = ap (λ n. n * c.args.frame) c.from.ensures in
    let low : leb (line c.args.count n) limit ≡ true = le-leb (line c.args.count n) limit (omega arith) in
    let shows = c.of-table.ensures (line c.args.count) (λ k r h gives. search rules) in
    ap Ok (shows_curves shows shows) ∙ sym (cond-true _ _ _ fits ∙ cond-true _ _ _ low)
