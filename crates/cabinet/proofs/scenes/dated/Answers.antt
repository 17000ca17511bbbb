use Rattle.std.proofs.Common.{◌≡◌, get_or, arith, rules}
use Rattle.cabinet.proofs.Made.{made_each}
use Rattle.cabinet.proofs.scenes.dated.Goals as goal

pub returns : goal.returns
returns c = λ k s low.
    let messages = c.args.messages.now in
    let since = c.args.since.now in
    made_each _ _ _ s (λ j r. r ≡ record { message = get_or messages j s.message; since = get_or since j s.since }) c.from_fn.ensures.items (λ j r q b called. search rules) k (omega arith)
