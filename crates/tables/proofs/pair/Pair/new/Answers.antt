use Rattle.std.proofs.Common.{◌≡◌, true, ◌&&◌, eqb, length, Ok, refl, sym, ap, ◌∙◌, arith, rules}
use Rattle.std.proofs.lemmas.Bool.{eq-eqb, cond-true, and_from}
use Rattle.tables.specs.Curves.{given}
use Rattle.tables.specs.Makes.{framed, lawful_pair}
use Rattle.tables.proofs.Curves.{lawful_graph}
use Rattle.tables.proofs.Pairs.{keeps, shows_curves, under_each}
use Rattle.tables.proofs.Tables.{shows_to}
use Rattle.tables.proofs.pair.Pair.new.Goals as goal

pub given-requires : goal.given-requires
given-requires c = search (rules, lawful_graph)

pub given-requires-2 : goal.given-requires-2
given-requires-2 c = search (rules, lawful_graph)

pub invariant_of-result : goal.invariant_of-result
invariant_of-result c =
    let xs = c.args.most.now in
    let ys = c.args.least.now in
    let same : length ys ≡ length xs = search rules in
    keeps c.given.ensures (shows_to same (λ k _. refl) c.given-2.ensures)
    (under_each (length xs) (given xs) (given ys) (search rules) (omega arith))

pub returns : goal.returns
returns c =
    let xs = c.args.most.now in
    let ys = c.args.least.now in
    let n = length xs in
    let same : length ys ≡ length xs = search rules in
    let fits : (framed n && eqb (length ys) n) ≡ true =
    and_from (framed n) _ (search rules) (eq-eqb (length ys) n (omega arith)) in
    let law : lawful_pair xs ys ≡ true = search (rules, and_from) in
    ap Ok (shows_curves c.given.ensures (shows_to same (λ k _. refl) c.given-2.ensures)) ∙ sym (cond-true _ _ _ fits ∙ cond-true _ _ _ law)
