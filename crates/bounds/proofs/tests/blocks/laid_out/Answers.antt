use Rattle.std.proofs.Common.{◌∙◌, inl, inr, arith, lit<}
use Rattle.bounds.proofs.Ends.{unwritten}
use Rattle.bounds.proofs.tests.blocks.laid_out.Goals as goal

pub returns : goal.returns
returns c =
    record {
      kind = c.put-2.ensures 0 (inl (lit< tt)) ∙ c.put.ensures 0 (inl (lit< tt));
      frame = c.put-2.ensures 1 (inl (lit< tt)) ∙ c.put.ensures 1 (inl (lit< tt));
      zeros = λ i l h. c.put-2.ensures i (inl (omega arith)) ∙ (c.put.ensures i (inl (omega arith)) ∙ unwritten 508 i _ _ (omega arith));
      last_zeros = λ i h. c.put-2.ensures i (inr (omega arith)) ∙ (c.put.ensures i (inr (omega arith)) ∙ unwritten 508 i _ _ (omega arith));
    }
