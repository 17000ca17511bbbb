use Rattle.std.proofs.Common.{sym, ◌∙◌}
use Rattle.std.proofs.lemmas.Slice.Eq.{slice_eq-Decides}
use Rattle.std.proofs.lemmas.Bool.{both_ways}
use Rattle.stage_tests.proofs.tests.shows.Goals as goal
use Rattle.std.proofs.lemmas.Bool.Decides.{Decides-eqb}

pub returns-then-eq : goal.returns-then-eq
returns-then-eq c =
    let m = slice_eq-Decides Decides-eqb _ _ _ c.eq.ensures in
    let l = slice_eq-Decides Decides-eqb _ _ _ c.eq-then-eq.ensures in (
      (λ e. (sym c.entries.ensures ∙ m.0 c.if-eq.true, sym c.entries-then-eq.ensures ∙ l.0 e)),
      (λ p. l.1 (c.entries-then-eq.ensures ∙ p.1)),
    )

pub returns-else-eq : goal.returns-else-eq
returns-else-eq c =
    let m = slice_eq-Decides Decides-eqb _ _ _ c.eq.ensures in
    ((λ e. absurd (both_ways _ c.if-eq.false e)), (λ p. m.1 (c.entries.ensures ∙ p.0)))
