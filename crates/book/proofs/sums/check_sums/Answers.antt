use Rattle.std.proofs.Common.{◌≡◌, ℕ, ◌+◌, List, [], ◌∷◌, ◌++◌, length, refl, arith, rules}
use Rattle.std.proofs.lemmas.Grind.{common_steps}
use Rattle.std.proofs.lemmas.List.Recursion.{is_sum_by}
use Rattle.book.specs.Sums.{total, running_from}
use Rattle.book.proofs.sums.check_sums.Goals as goal

running_push : (s : ℕ) (xs : List ℕ) (x : ℕ) → running_from s (xs ++ (x ∷ [])) ≡ running_from s xs + (s + (total xs + x))
running_push s [] x = omega arith
running_push s (y ∷ ys) x = omega (arith, running_push (s + y) ys x)

pub loop-byte-preserved : goal.loop-byte-preserved
loop-byte-preserved c =
    let long : length c.args.bytes.now ≡ 508 = search rules in
    grind (arith, common_steps, is_sum_by total (λ x. x) refl (λ _ _. refl), running_push 0)
