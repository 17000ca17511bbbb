use Rattle.std.proofs.Common.{refl}
use Rattle.worked.proofs.Computed.{serves, shapes, runs, rules, steady, shortest, limits, clocks, records}
use Rattle.worked.proofs.list.examples.Goals as goal

pub returns : goal.returns
returns c = record {
  value = refl;
  serves = serves;
  shapes = shapes;
  runs = runs;
  rules = rules;
  steady = steady;
  shortest = shortest;
  limits = limits;
  clocks = clocks;
  records = records;
}
