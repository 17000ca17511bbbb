use Rattle.std.proofs.Common.{◌≡◌, ◌+◌, length, vec_items}
use Rattle.cabinet.proofs.messages.Source.send.Given as goal

abbrev pub invariant-loop : goal.invariant-loop
invariant-loop l = record {
  sent : length (vec_items l.messages) ≡ length (vec_items l.initial.messages) + l.counter;
  row : l.self.row ≡ l.initial.self.row;
}
