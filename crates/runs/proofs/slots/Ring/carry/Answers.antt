use Rattle.std.proofs.Common.{◌≡◌, ◌-◌, ◌≤◌, length, take, drop, ap, ◌∙◌, append_assoc, arith, length-drop}
use Rattle.std.proofs.lemmas.List.{length-take-le}
use Rattle.runs.specs.Held.{held_in}
use Rattle.runs.proofs.Rounds.{carry_over, carry_rest, none_held}
use Rattle.runs.proofs.slots.Ring.carry.Goals as goal

pub returns-then-self-p : goal.returns-then-self-p
returns-then-self-p g c =
    let n : c.args.p - c.args.self.now.held - 0 ≡ c.args.p - c.args.self.now.held = omega arith in
    let h : c.copy_from_slice.new.self ≡ take (c.args.p - c.args.self.now.held) c.args.input.now =
    c.copy_from_slice.ensures.after ∙ ap (λ k. take k c.args.input.now) n in
    let m : length c.copy_from_slice.new.self ≡ c.args.p - c.args.self.now.held =
    ap length h ∙ length-take-le _ c.args.input.now (omega arith) in
    let z : c.send.new.self.held ≡ 0 = omega (arith, c.send.ensures.count) in
    let q : length (take (c.args.a - (c.args.p - c.args.self.now.held)) (drop (c.args.p - c.args.self.now.held) c.args.input.now)) ≡ c.args.a - (c.args.p - c.args.self.now.held) =
    length-take-le _ _ (simp length-drop (omega arith)) in
    let l : c.args.p ≤ length c.send.new.out = omega (arith, c.send.auto.out) in
    record {
      order = carry_over c.send.new.out c.copy_from_slice.new.self c.args.input.now _ _ _ c.args.self.now.held c.args.p c.args.a c.send.ensures.order (none_held c.send.new.self.slots.now c.send.new.self.head c.send.new.self.held z) (omega arith) l h (omega arith) c.requires.arrived c.keep.ensures.order;
      rest = carry_rest c.send.new.out c.args.out.now c.copy_from_slice.new.self c.args.self.now.held c.args.p (omega arith) l m c.send.ensures.rest;
      slots = c.keep.ensures.slots ∙ c.send.ensures.slots;
      count = omega (arith, c.keep.ensures.count, c.send.ensures.count, q);
    }

pub returns-else-self-p : goal.returns-else-self-p
returns-else-self-p g c =
    let a = append_assoc (take c.args.p c.send-else-self-p.new.out) (held_in c.send-else-self-p.new.self.slots.now c.send-else-self-p.new.self.head c.send-else-self-p.new.self.held) (take c.args.a c.args.input.now) in
    let n : c.args.a - 0 ≡ c.args.a = omega arith in
    let o = c.keep-else-self-p.ensures.order in
    let s = c.send-else-self-p.ensures.order in
    record {
      order = cc;
      rest = c.send-else-self-p.ensures.rest;
      slots = c.keep-else-self-p.ensures.slots ∙ c.send-else-self-p.ensures.slots;
      count = omega (arith, c.keep-else-self-p.ensures.count, c.send-else-self-p.ensures.count, length-take-le c.args.a c.args.input.now c.requires.arrived);
    }
