use Rattle.std.proofs.Common.{◌≡◌, ◌-◌, ◌++◌, length, take}
use Rattle.runs.specs.Held.{held_in}
use Rattle.runs.proofs.slots.Ring.send.Given as goal

abbrev pub invariant-loop-place : goal.invariant-loop-place
invariant-loop-place g l =
    (take l.place-index l.place-items ++ held_in l.self.slots.now l.self.head l.self.held ≡ held_in l.initial.self.slots.now l.initial.self.head l.initial.self.held)
    × (length l.place-items ≡ length l.initial.place-items)
    × (length l.self.slots.now ≡ length l.initial.self.slots.now)
    × (l.self.held ≡ l.initial.self.held - l.place-index)
