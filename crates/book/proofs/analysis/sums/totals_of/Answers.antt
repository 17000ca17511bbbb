use Rattle.std.proofs.Common.{◌≡◌, List, map, refl, sym, ◌∙◌, rules}
use Rattle.std.specs.List.{sum_by}
use Rattle.std.proofs.lemmas.List.Recursion.{is_sum_by}
use Rattle.book.specs.Chains.{staged}
use Rattle.book.specs.Text.{total_wait, total_delay}
use Rattle.book.specs.declared.line.Line.{Line}
use Rattle.book.proofs.analysis.sums.totals_of.Goals as goal

pub returns-clause-wait : goal.returns-clause-wait
returns-clause-wait c =
    let ls = c.args.lines.now in
    let added : c.sum.result ≡ sum_by (λ (l : Line). l.wait) ls = search rules in
    added ∙ sym (is_sum_by (λ (xs : List Line). total_wait (map staged xs)) (λ l. l.wait) refl (λ _ _. refl) ls)

pub returns-clause-delay : goal.returns-clause-delay
returns-clause-delay c =
    let ls = c.args.lines.now in
    let added : c.sum-2.result ≡ sum_by (λ (l : Line). l.delay) ls = search rules in
    added ∙ sym (is_sum_by (λ (xs : List Line). total_delay (map staged xs)) (λ l. l.delay) refl (λ _ _. refl) ls)
