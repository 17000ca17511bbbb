use Rattle.std.proofs.Common.{◌≡◌, Some, arith, rules}
use Rattle.tables.specs.Curves.{settling_length}
use Rattle.tables.specs.Tables.{at}
use Rattle.tables.proofs.Curves.{settling_settles, delay_shortest, excess_le}
use Rattle.tables.proofs.Tables.{at_le, at_rises}
use Rattle.tables.proofs.server.server_bounds.Goals as goal

pub returns-clause-settles : goal.returns-clause-settles
returns-clause-settles c =
    let e = c.args.events.now.most in
    let s = c.args.service.now.least in
    let is : settling_length e.frame (at e) (at s) ≡ Some c.in_ok-settling.settling = search rules in
    settling_settles e.frame (at e) (at s) c.in_ok-settling.settling is

pub returns-clause-shortest : goal.returns-clause-shortest
returns-clause-shortest c =
    let e = c.args.events.now.most in
    let s = c.args.service.now.least in
    let d = c.in_ok-settling.settling in
    let is : settling_length e.frame (at e) (at s) ≡ Some d = search rules in
    let settles = settling_settles e.frame (at e) (at s) d is in
    rw c.delay_of.ensures.value (delay_shortest d (at e) (at s) (at_rises e) (at_rises s) settles.settled)

pub returns-clause-bound : goal.returns-clause-bound
returns-clause-bound c =
    let e = c.args.events.now.most in
    let s = c.args.service.now.least in
    let d = c.in_ok-settling.settling in
    let is : settling_length e.frame (at e) (at s) ≡ Some d = search rules in
    omega (arith, c.excess_at.ensures, excess_le (at e) (at s) d (at_rises e), at_le e d (settling_settles e.frame (at e) (at s) d is).within)
