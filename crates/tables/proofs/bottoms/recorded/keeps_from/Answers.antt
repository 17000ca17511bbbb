use Rattle.std.proofs.Common.{◌≡◌, ◌+◌, ◌-◌, min, true, false, length, sym, ◌∙◌, arith}
use Rattle.std.proofs.lemmas.Bool.{le-leb, lt-leb}
use Rattle.tables.specs.Courses.{sum, recorded}
use Rattle.tables.specs.Tables.{at}
use Rattle.tables.proofs.Ranges.{every_skip, every_miss, every_out}
use Rattle.tables.proofs.Sums.{window_more}
use Rattle.tables.proofs.Windows.{Fits, window_at, kept_last}
use Rattle.tables.proofs.bottoms.recorded.keeps_from.Goals as goal

pub returns-then-sum-from : goal.returns-then-sum-from
returns-then-sum-from c =
    let t = c.args.most.now in
    let xs = c.args.list.now in
    let i = c.args.start in
    let k = c.loop-before.before in
    let last = c.min-last.result in
    let s = recorded xs in
    let counted : c.from-sum.result ≡ s (i + k) = c.from-sum.ensures ∙ window_at xs i _ k (omega arith) in
    let more = window_more s i k c.loop-before.sum c.loop-before.invariant.1 in
    let miss : Fits (at t) xs i (k + 1) ≡ false = lt-leb (sum s (i + (k + 1))) (sum s i + at t (k + 1)) (omega (arith, c.near.ensures.value, c.from.ensures)) in
    let is : last ≡ min t.frame (length xs - i) = omega (arith, c.frame.ensures.value) in
    sym (every_miss (k + 1) last (Fits (at t) xs i) (omega arith) miss) ∙ sym c.loop-before.invariant.0 ∙ kept_last t.frame (at t) xs i last is

pub loop-before-preserved : goal.loop-before-preserved
loop-before-preserved c =
    let t = c.args.most.now in
    let xs = c.args.list.now in
    let i = c.args.start in
    let k = c.loop-before.before in
    let s = recorded xs in
    let counted : c.from-sum.result ≡ s (i + k) = c.from-sum.ensures ∙ window_at xs i _ k (omega arith) in
    let more = window_more s i k c.loop-before.sum c.loop-before.invariant.1 in
    let pass : Fits (at t) xs i (k + 1) ≡ true = le-leb (sum s (i + (k + 1))) (sum s i + at t (k + 1)) (omega (arith, c.near.ensures.value, c.from.ensures)) in
    (c.loop-before.invariant.0 ∙ every_skip (k + 1) c.min-last.result (Fits (at t) xs i) (omega arith) pass, omega arith, omega arith)

pub returns : goal.returns
returns c =
    let t = c.args.most.now in
    let xs = c.args.list.now in
    let i = c.args.start in
    let last = c.min-last.result in
    let is : last ≡ min t.frame (length xs - i) = omega (arith, c.frame.ensures.value) in
    sym (every_out (c.loop-before.before + 1) last (Fits (at t) xs i) (omega arith)) ∙ sym c.loop-before.invariant.0 ∙ kept_last t.frame (at t) xs i last is
