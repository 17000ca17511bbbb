use Rattle.std.proofs.Common.{◌≡◌, Ok, sym, ap, ◌∙◌}
use Rattle.book.specs.Reads.{read_as, block_read, read_answer}
use Rattle.book.proofs.chain.first_pair.Goals as goal

pub returns-in-Events : goal.returns-in-Events
returns-in-Events c =
    let is : block_read c.in_ok-entries.field-0 ≡ read_as 1 c.in-Events.entries = ap block_read c.in-Events.is in
    let read : read_answer c.args.block.now ≡ Ok (read_as 1 c.in-Events.entries) = sym c.in_ok-entries.ensures ∙ ap Ok is in
    rw read c.pair.ensures
