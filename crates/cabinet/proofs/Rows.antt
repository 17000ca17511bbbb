-- Rows of counts of a sheet.
use Rattle.std.proofs.Common.{◌≡◌, ℕ, ◌+◌, ◌<◌, List, [], length, get_or, map, take, sym, ap, ◌∙◌, arith}
use Rattle.std.specs.List.{sum_by}
use Rattle.std.proofs.lemmas.List.{get_or-map, length-map}
use Rattle.std.proofs.lemmas.List.Sums.{sum_by_more}
use Rattle.cabinet.specs.declared.messages.Source.{Source}

-- what the rows say of tick t + 1 together
abbrev pub sum_at : ℕ → List (List ℕ) → ℕ
sum_at t = sum_by (λ row. get_or row t 0)

-- one source more has sent its messages of the tick
pub source_more : (sources : List Source) (rows : List (List ℕ)) (t i : ℕ) (d : Source) (before was now : ℕ) → map (λ s. s.row.now) sources ≡ rows → i < length rows → was ≡ before + sum_at t (take i rows) → now ≡ was + get_or (get_or sources i d).row.now t 0 → now ≡ before + sum_at t (take (i + 1) rows)
source_more sources rows t i d before was now e l h more =
    let long : length rows ≡ length sources = ap length (sym e) ∙ length-map sources (λ (s : Source). s.row.now) in
    let row : get_or rows i [] ≡ (get_or sources i d).row.now = ap (λ rs. get_or rs i []) (sym e) ∙ get_or-map (λ (s : Source). s.row.now) sources i d [] (omega (arith, l, long)) in
    omega (arith, h, more, sum_by_more (λ row. get_or row t 0) rows i [] l, ap (λ r. get_or r t 0) row)
