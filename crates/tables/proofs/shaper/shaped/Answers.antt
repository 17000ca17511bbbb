use Rattle.std.proofs.Common.{◌-◌, sym, refl, ap, ◌∙◌, arith}
use Rattle.tables.specs.Curves.{growth, convolved}
use Rattle.tables.specs.Tables.{at}
use Rattle.tables.proofs.Curves.{growth_le, convolved_same, convolved_under}
use Rattle.tables.proofs.Pairs.{at_under, keeps, shows_curves}
use Rattle.tables.proofs.Tables.{shows_at, shows_to}
use Rattle.tables.proofs.shaper.shaped.Goals as goal

pub invariant_of-result : goal.invariant_of-result
invariant_of-result c =
    let e = c.args.events.now in
    let h = c.args.h.now in
    keeps c.convolved_table.ensures (shows_to e.same (λ k _. refl) c.convolved_table-2.ensures)
    (λ k l.
    convolved_under (at e.least) (at e.most) (at c.growth_table-growth.result) (at h) k
    (λ j i. at_under e j (omega arith))
    (λ j i. omega (arith, shows_at c.growth_table-growth.ensures j (omega arith), growth_le (at h) (h.frame - 1) j)))

pub returns : goal.returns
returns c =
    let e = c.args.events.now in
    let h = c.args.h.now in
    shows_curves c.convolved_table.ensures
    (shows_to e.same
    (λ k l.
    convolved_same (at e.least) (at c.growth_table-growth.result) (growth (h.frame - 1) (at h)) k (λ j i. shows_at c.growth_table-growth.ensures j (omega arith))
    ∙ ap (λ n. convolved (at e.least) (growth (n - 1) (at h)) k) (sym c.requires))
    c.convolved_table-2.ensures)
