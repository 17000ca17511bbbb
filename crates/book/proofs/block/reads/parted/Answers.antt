use Rattle.std.proofs.Common.{◌≡◌, length, ap, ◌∙◌, arith, rules}
use Rattle.book.specs.Reads.{parted_answer}
use Rattle.book.proofs.Parts.{head_not_zero, fixed_not_zero, kind_unknown, parted_as}
use Rattle.book.proofs.block.reads.parted.Goals as goal
use Rattle.book.proofs.block.reads.parted.Goals.{then-not-is_zero-via-then-not-is_zero, then-not-is_zero-via-else-not-is_zero+then-not-is_zero-2}

pub returns-then-not-is_zero : goal.returns-then-not-is_zero
returns-then-not-is_zero c =
    let b = c.as_slice.result.now in
    let long : length b ≡ 512 = ap length c.as_slice.ensures ∙ c.told-block in
    let front = rw c.unwrap.ensures at c.split_first_chunk.ensures.cases in
    let back = rw c.unwrap-2.ensures at c.split_first_chunk-2.ensures.cases in
    elim c.then-not-is_zero.branch [
      | then-not-is_zero-via-then-not-is_zero w ↦ head_not_zero b _ _ _ _ long front.0 front.1 back.0 back.1 (search rules) ∙ ap parted_answer c.as_slice.ensures
      | then-not-is_zero-via-else-not-is_zero+then-not-is_zero-2 w ↦ fixed_not_zero b _ _ _ _ long front.0 front.1 back.0 back.1 (search rules) ∙ ap parted_answer c.as_slice.ensures
    ]

pub returns-in-1 : goal.returns-in-1
returns-in-1 c =
    let b = c.as_slice.result.now in
    let long : length b ≡ 512 = ap length c.as_slice.ensures ∙ c.told-block in
    let front = rw c.unwrap.ensures at c.split_first_chunk.ensures.cases in
    let back = rw c.unwrap-2.ensures at c.split_first_chunk-2.ensures.cases in
    parted_as b _ _ _ _ long front.0 front.1 back.0 back.1 1 c.in-1.is (omega arith) (omega arith) (search rules) (search rules) ∙ ap parted_answer c.as_slice.ensures

pub returns-in-2 : goal.returns-in-2
returns-in-2 c =
    let b = c.as_slice.result.now in
    let long : length b ≡ 512 = ap length c.as_slice.ensures ∙ c.told-block in
    let front = rw c.unwrap.ensures at c.split_first_chunk.ensures.cases in
    let back = rw c.unwrap-2.ensures at c.split_first_chunk-2.ensures.cases in
    parted_as b _ _ _ _ long front.0 front.1 back.0 back.1 2 c.in-2.is (omega arith) (omega arith) (search rules) (search rules) ∙ ap parted_answer c.as_slice.ensures

pub returns-in-3 : goal.returns-in-3
returns-in-3 c =
    let b = c.as_slice.result.now in
    let long : length b ≡ 512 = ap length c.as_slice.ensures ∙ c.told-block in
    let front = rw c.unwrap.ensures at c.split_first_chunk.ensures.cases in
    let back = rw c.unwrap-2.ensures at c.split_first_chunk-2.ensures.cases in
    parted_as b _ _ _ _ long front.0 front.1 back.0 back.1 3 c.in-3.is (omega arith) (omega arith) (search rules) (search rules) ∙ ap parted_answer c.as_slice.ensures

pub returns-in_default-kind : goal.returns-in_default-kind
returns-in_default-kind c =
    let b = c.as_slice.result.now in
    let long : length b ≡ 512 = ap length c.as_slice.ensures ∙ c.told-block in
    let front = rw c.unwrap.ensures at c.split_first_chunk.ensures.cases in
    let back = rw c.unwrap-2.ensures at c.split_first_chunk-2.ensures.cases in
    kind_unknown b _ _ _ _ long front.0 front.1 back.0 back.1 (search rules) (search rules) (search rules) ∙ ap parted_answer c.as_slice.ensures
