use Rattle.std.proofs.Common.{◌≡◌, length, ◌≤◌, sym, ap, ◌∙◌, rules}
use Rattle.tables.specs.Courses.{later, recorded}
use Rattle.flows.specs.Views.{tail}
use Rattle.flows.proofs.Laters.{later_past}
use Rattle.flows.proofs.recorded.RecordedCourse.next.Goals as goal

pub returns-in_default-clause-next : goal.returns-in_default-clause-next
returns-in_default-clause-next c =
    let s = c.args.self.now in
    let behind : length s.list.now ≤ s.place = search rules in
    let past : later s.place (recorded s.list.now) ≡ (λ _. 0) = later_past s.list.now s.place behind in
    past ∙ sym (ap tail past)
