use Rattle.std.proofs.Common.{map, take}
use Rattle.std.specs.Fmt.{IsPlainFormatter, HasWritten}
use Rattle.book.specs.Chains.{staged}
use Rattle.book.specs.Text.{lines_text}
use Rattle.book.proofs.text.LinesDisplay.fmt.Given as goal

-- the lines so far are written
abbrev pub invariant-loop-i : goal.invariant-loop-i
invariant-loop-i g l = IsPlainFormatter l.initial.f → HasWritten g.W.Write.write_str_gives l.initial.f (lines_text 2 (map staged (take l.i l.self.0.now))) l.f
