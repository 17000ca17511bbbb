use Rattle.std.proofs.Common.{◌≤◌, length, take}
use Rattle.runs.specs.Calls.{desk, nothing, Through}
use Rattle.runs.proofs.states.Running.work.Given as goal

abbrev pub invariant-loop-call : goal.invariant-loop-call
invariant-loop-call g l =
    Through g.P.Flow g.P.Stage l.input (desk l.initial.self l.initial.log l.initial.ring l.initial.out nothing) (take l.call-index l.calls) (desk l.self l.log l.ring l.out l.done)
    × (l.done.taken ≤ length l.input)
    × (l.done.given ≤ length l.out)
    × (l.done.refused ≤ l.call-index)
