use Rattle.std.proofs.Common.{◌≡◌, ℕ, Ok, sym, ap, ◌∙◌, arith}
use Rattle.std.proofs.lemmas.Bool.{cond-true, cond-false, eq-eqb, ne_eqb}
use Rattle.book.specs.Reads.{Read, read_as, block_read, read_answer}
use Rattle.book.proofs.chain.next_line.Goals as goal

abbrev frame_of : Read → ℕ
frame_of r = r.frame

pub returns-then-from-frame : goal.returns-then-from-frame
returns-then-from-frame c =
    let read : read_answer c.args.block.now ≡ Ok (block_read c.in_ok-block.block) = sym c.in_ok-block.ensures in
    rw read (sym (cond-false _ _ _ (ne_eqb (frame_of (block_read c.in_ok-block.block)) c.args.chain.now.most.frame (omega arith))))

pub returns-in-Events : goal.returns-in-Events
returns-in-Events c =
    let is : block_read c.in_ok-block.block ≡ read_as 1 c.in-Events.entries = ap block_read c.in-Events.is in
    let read : read_answer c.args.block.now ≡ Ok (read_as 1 c.in-Events.entries) = sym c.in_ok-block.ensures ∙ ap Ok is in
    let same : c.in-Events.entries.frame ≡ c.args.chain.now.most.frame = omega (arith, ap frame_of is, c.frame.ensures, c.from.ensures) in
    rw read (c.join_line.ensures ∙ sym (cond-true _ _ _ (eq-eqb c.in-Events.entries.frame c.args.chain.now.most.frame same)))

pub returns-in-Service : goal.returns-in-Service
returns-in-Service c =
    let is : block_read c.in_ok-block.block ≡ read_as 2 c.in-Service.entries = ap block_read c.in-Service.is in
    let read : read_answer c.args.block.now ≡ Ok (read_as 2 c.in-Service.entries) = sym c.in_ok-block.ensures ∙ ap Ok is in
    let same : c.in-Service.entries.frame ≡ c.args.chain.now.most.frame = omega (arith, ap frame_of is, c.frame.ensures, c.from.ensures) in
    rw read (c.server_line.ensures ∙ sym (cond-true _ _ _ (eq-eqb c.in-Service.entries.frame c.args.chain.now.most.frame same)))

pub returns-in-Shaping : goal.returns-in-Shaping
returns-in-Shaping c =
    let is : block_read c.in_ok-block.block ≡ read_as 3 c.in-Shaping.entries = ap block_read c.in-Shaping.is in
    let read : read_answer c.args.block.now ≡ Ok (read_as 3 c.in-Shaping.entries) = sym c.in_ok-block.ensures ∙ ap Ok is in
    let same : c.in-Shaping.entries.frame ≡ c.args.chain.now.most.frame = omega (arith, ap frame_of is, c.frame.ensures, c.from.ensures) in
    rw read (c.shaper_line.ensures ∙ sym (cond-true _ _ _ (eq-eqb c.in-Shaping.entries.frame c.args.chain.now.most.frame same)))
