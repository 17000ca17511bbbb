use Rattle.std.proofs.Common.{take}
use Rattle.std.specs.Fmt.{IsPlainFormatter, HasWritten}
use Rattle.book.specs.Text.{spaced}
use Rattle.book.proofs.text.RowDisplay.fmt.Given as goal

-- the counts so far are written
abbrev pub invariant-loop-count : goal.invariant-loop-count
invariant-loop-count g l = IsPlainFormatter l.initial.f → HasWritten g.W.Write.write_str_gives l.initial.f (spaced (take l.count-index l.self.0.now)) l.f
