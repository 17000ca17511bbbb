use Rattle.std.proofs.Common.{◌≡◌, ◌≤◌, ap, ◌∙◌, arith}
use Rattle.tables.specs.Curves.{shortest_delay, excess}
use Rattle.tables.specs.Tables.{at}
use Rattle.tables.proofs.Curves.{delay_shortest, excess_le}
use Rattle.tables.proofs.Tables.{at_le, at_rises}
use Rattle.tables.proofs.shaper.shaper_bounds.Goals as goal

pub returns-clause-shortest : goal.returns-clause-shortest
returns-clause-shortest c =
    let e = c.args.events.now.most in
    let f = at e in
    let g = at c.args.h.now in
    let is = c.frame-frame.ensures.value in
    let fits : f e.frame ≤ g e.frame = omega (arith, ap f is, ap g is, c.near.ensures.value, c.near-2.ensures.value) in
    let delay : c.delay_of.result ≡ shortest_delay e.frame f g = c.delay_of.ensures.value ∙ ap (λ m. shortest_delay m f g) is in
    rw delay (delay_shortest e.frame f g (at_rises e) (at_rises c.args.h.now) fits)

pub returns-clause-bound : goal.returns-clause-bound
returns-clause-bound c =
    let e = c.args.events.now.most in
    let f = at e in
    let g = at c.args.h.now in
    let is = c.frame-frame.ensures.value in
    let wait : c.excess_at.result ≡ excess f g e.frame = c.excess_at.ensures ∙ ap (excess f g) is in
    omega (arith, wait, excess_le f g e.frame (at_rises e), at_le e e.frame (omega arith))
