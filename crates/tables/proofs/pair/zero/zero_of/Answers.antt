use Rattle.std.proofs.Common.{rules}
use Rattle.tables.proofs.Curves.{zero_graph}
use Rattle.tables.proofs.Pairs.{shows_curves}
use Rattle.tables.proofs.pair.zero.zero_of.Goals as goal

pub of-zero-requires-clause-graph : goal.of-zero-requires-clause-graph
of-zero-requires-clause-graph c = (λ _. 0, zero_graph c.requires.some c.requires.few, λ k r h gives. search rules)

pub returns : goal.returns
returns c = let shows = c.of-zero.ensures (λ _. 0) (λ k r h gives. search rules) in shows_curves shows shows
