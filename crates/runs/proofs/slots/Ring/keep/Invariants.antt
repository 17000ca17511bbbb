use Rattle.std.proofs.Common.{◌≡◌, ◌+◌, ◌++◌, length, take}
use Rattle.runs.specs.Held.{held_in}
use Rattle.runs.proofs.slots.Ring.keep.Given as goal

abbrev pub invariant-loop-m : goal.invariant-loop-m
invariant-loop-m g l =
    (held_in l.self.slots.now l.self.head l.self.held ≡ held_in l.initial.self.slots.now l.initial.self.head l.initial.self.held ++ take l.m-index l.fresh)
    × (length l.self.slots.now ≡ length l.initial.self.slots.now)
    × (l.self.held ≡ l.initial.self.held + l.m-index)
