use Rattle.std.proofs.Common.{◌≡◌, ℕ, ◌%◌, ◌<◌, cond, nat_eq, length, get_or}
use Rattle.cabinet.proofs.sheets.beats.Given as goal

abbrev pub invariant-loop-tick : goal.invariant-loop-tick
invariant-loop-tick l = ((k : ℕ) → k < l.tick → get_or l.count-items k 0 ≡ cond (nat_eq (k % l.period) l.offset) 1 0) × (length l.count-items ≡ 352)
