use Rattle.std.proofs.Common.{◌≡◌, ◌*◌, ◌≤◌, take}
use Rattle.book.specs.Sums.{total, running}
use Rattle.book.proofs.sums.check_sums.Given as goal

-- the sums of the bytes so far, and how large they are
abbrev pub invariant-loop-byte : goal.invariant-loop-byte
invariant-loop-byte l =
    (l.sum ≡ total (take l.byte-index l.bytes))
    × (l.running_sum ≡ running (take l.byte-index l.bytes))
    × (l.sum ≤ 255 * l.byte-index)
    × (l.running_sum ≤ 129540 * l.byte-index)
