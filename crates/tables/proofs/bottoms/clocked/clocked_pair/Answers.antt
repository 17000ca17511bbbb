use Rattle.std.proofs.Common.{◌≡◌, true, Ok, sym, ap, ◌∙◌, arith, rules}
use Rattle.std.proofs.lemmas.Bool.{le-leb, cond-true, and_from}
use Rattle.tables.specs.Bottoms.{timed, clocked_most, clocked_least}
use Rattle.tables.specs.Limits.{longest_period, longest_jitter}
use Rattle.tables.specs.Makes.{framed}
use Rattle.tables.proofs.Clocks.{clocked_graph, least_graph, clocked_under}
use Rattle.tables.proofs.Pairs.{keeps, shows_curves}
use Rattle.tables.proofs.bottoms.clocked.clocked_pair.Goals as goal

pub of-requires-clause-graph : goal.of-requires-clause-graph
of-requires-clause-graph c =
    let long = c.in_ok-check_frame.ensures.within in
    let p = c.args.period in
    let j = c.args.jitter in
    (clocked_most p j, clocked_graph c.args.frame p j (omega arith) (omega arith) (omega arith) (omega arith) (omega arith), λ k r h gives. search rules)

pub of-requires-2-clause-graph : goal.of-requires-2-clause-graph
of-requires-2-clause-graph c =
    let long = c.in_ok-check_frame.ensures.within in
    let p = c.args.period in
    let j = c.args.jitter in
    (clocked_least p j, least_graph c.args.frame p j (omega arith) (omega arith) (omega arith), λ k r h gives. search rules)

pub invariant_of-result : goal.invariant_of-result
invariant_of-result c =
    let p = c.args.period in
    let j = c.args.jitter in
    keeps (c.of.ensures (clocked_most p j) (λ k r h gives. search rules)) (c.of-2.ensures (clocked_least p j) (λ k r h gives. search rules)) (λ k _. clocked_under p j k (omega arith))

pub returns : goal.returns
returns c =
    let n = c.args.frame in
    let p = c.args.period in
    let j = c.args.jitter in
    let fits : framed n ≡ true = search rules in
    let on-time : timed p j ≡ true = and_from _ _ (le-leb 1 p (omega arith)) (and_from _ _ (le-leb p longest_period (omega arith)) (le-leb j longest_jitter (omega arith))) in
    ap Ok (shows_curves (c.of.ensures (clocked_most p j) (λ k r h gives. search rules)) (c.of-2.ensures (clocked_least p j) (λ k r h gives. search rules)))
    ∙ sym (cond-true _ _ _ fits ∙ cond-true _ _ _ on-time)
