use Rattle.std.proofs.Common.{◌≡◌, ℕ, zero, suc, ◌+◌, ◌-◌, min, length, get_or, take, sum as total, sym, refl, ap, ◌∙◌, arith, rules}
use Rattle.std.proofs.lemmas.List.Sums.{sum_by_more}
use Rattle.std.proofs.lemmas.Slice.Zip.{zip_turn}
use Rattle.std.proofs.lemmas.List.{length_push}
use Rattle.tables.specs.Ranges.{smallest}
use Rattle.tables.proofs.Ranges.{smallest_none, smallest_step}
use Rattle.stages.proofs.shaper.memory.room.Goals as goal

-- one value more
more : (k : ℕ) (f : ℕ → ℕ) → min (smallest (k - 1) f) (f k) ≡ smallest (k + 1 - 1) f
more zero f = omega (arith, smallest_none f)
more (suc k) f = sym (smallest_step (suc k) f (omega arith))

pub loop-entry-init : goal.loop-entry-init
loop-entry-init c =
    let f : ℕ → ℕ = λ k. get_or c.args.entries.now k 0 - total (take k c.args.past.now) in
    (omega (arith, c.from-room.ensures, smallest_none f), refl, omega arith)

pub loop-entry-preserved : goal.loop-entry-preserved
loop-entry-preserved c =
    let past = c.args.past.now in
    let k = length c.loop-entry.yielded in
    let f : ℕ → ℕ = λ k. get_or c.args.entries.now k 0 - total (take k past) in
    let turn = zip_turn c.args.entries.now past c.loop-entry.yielded c.into_iter-entry-iterator.result c.loop-entry.entry-iterator c.next.new.self c.next.result (search rules) (search rules) c.loop-entry.yielded_by (c.in-Some.field-0-0, c.in-Some.field-0-1) c.in-Some.is c.next.ensures.steps in
    let long = length_push c.loop-entry.yielded (c.in-Some.field-0-0, c.in-Some.field-0-1) in
    let next : total (take (k + 1) past) ≡ total (take k past) + get_or past k 0 = sum_by_more (λ x. x) past k 0 turn.1 in
    let entry = turn.2 0 in
    let count = turn.3 0 in (
      omega (arith, more k f, c.loop-entry.invariant.0, c.loop-entry.invariant.1, c.min-room.ensures, c.saturating_sub.ensures, c.from.ensures, entry) ∙ ap (λ n. smallest (n - 1) f) (sym long),
      omega (arith, c.loop-entry.invariant.1, next, c.from-passed.ensures, count) ∙ ap (λ n. total (take n past)) (sym long),
      omega (arith, c.loop-entry.invariant.2, long, c.from-passed.ensures, count, c.fits-past k),
    )
