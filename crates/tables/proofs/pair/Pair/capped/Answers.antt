use Rattle.std.proofs.Common.{◌≡◌, refl, arith, rules}
use Rattle.tables.specs.Curves.{repeated}
use Rattle.tables.specs.Tables.{at}
use Rattle.tables.proofs.Tables.{shows_all, shows_to}
use Rattle.tables.proofs.pair.Pair.capped.Goals as goal

pub invariant_of-result : goal.invariant_of-result
invariant_of-result c =
    let shows = c.of.ensures (λ _. 0) (λ k r h gives. search rules) in
    record { same = search rules; under = λ k l. omega (arith, shows.each k (omega arith)) }

pub returns : goal.returns
returns c =
    let t = c.args.most.now in
    let low : at c.of.result ≡ repeated t.frame (λ _. 0) = shows_all (shows_to c.frame.ensures.value (λ k _. refl) (c.of.ensures (λ _. 0) (λ k r h gives. search rules))) in
    λ i. record { frame = t.frame; most = at t; least = low i }
