use Rattle.std.proofs.Common.{◌+◌, ◌∙◌, arith, rules}
use Rattle.tables.proofs.Clocks.{ceil_up, clocked_none, clocked_some}
use Rattle.tables.proofs.bottoms.clocked.most_at.Goals as goal

pub returns-then-length-eq0 : goal.returns-then-length-eq0
returns-then-length-eq0 c = search (rules, clocked_none)

pub returns-else-length-eq0 : goal.returns-else-length-eq0
returns-else-length-eq0 c =
    let p = c.args.period in
    let k = c.args.length in
    let j = c.args.jitter in
    c.div_ceil.ensures ∙ ceil_up p (k + j) c.requires.ticks ∙ clocked_some p j k (omega arith)
