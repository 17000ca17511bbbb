use Rattle.std.proofs.Common.{◌≡◌, true, length, Ok, sym, ap, ◌∙◌, rules}
use Rattle.std.proofs.lemmas.Bool.{cond-true}
use Rattle.tables.specs.Curves.{given, lawful}
use Rattle.tables.specs.Makes.{framed}
use Rattle.tables.proofs.Curves.{lawful_graph}
use Rattle.tables.proofs.Tables.{shows_curve}
use Rattle.tables.proofs.table.Table.new.Goals as goal

pub given-requires : goal.given-requires
given-requires c = search (rules, lawful_graph)

pub returns : goal.returns
returns c =
    let xs = c.args.counts.now in
    let n = length xs in
    let fits : framed n ≡ true = search rules in
    let law : lawful n (given xs) ≡ true = search rules in
    ap Ok (shows_curve c.given.ensures) ∙ sym (cond-true _ _ _ fits ∙ cond-true _ _ _ law)
