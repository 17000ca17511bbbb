use Rattle.std.proofs.Common.{◌≡◌, ◌+◌, length, get_or, take, map, vec_items}
use Rattle.tables.specs.Courses.{sum}
use Rattle.cabinet.specs.Times.{handed}
use Rattle.cabinet.proofs.Rows.{sum_at}
use Rattle.cabinet.proofs.messages.line_up.Given as goal

abbrev pub invariant-loop-tick : goal.invariant-loop-tick
invariant-loop-tick l = record {
  door : l.door.row.now ≡ l.sheet.door;
  temperature : l.temperature.row.now ≡ l.sheet.temperature;
  four : length l.sheet.packs ≡ 4;
  rows : map (λ s. s.row.now) l.packs ≡ l.sheet.packs;
  sent : length (vec_items l.messages) ≡ sum (handed l.sheet) l.tick;
}

abbrev pub invariant-loop-pack : goal.invariant-loop-pack
invariant-loop-pack l = record {
  rows : map (λ s. s.row.now) l.pack-items ≡ l.sheet.packs;
  sent : length (vec_items l.messages) ≡ sum (handed l.sheet) l.tick + (get_or l.sheet.door l.tick 0 + get_or l.sheet.temperature l.tick 0) + sum_at l.tick (take l.pack-index l.sheet.packs);
}
