use Rattle.std.proofs.Common.{◌≡◌, ℕ, zero, suc, ◌+◌, ◌<◌, ◌≤◌, List, get_or, subst, sym, ap, ◌∙◌, inl, inr, arith, rules}
use Rattle.std.specs.Array.{IsFromFnResultFrom}
use Rattle.std.proofs.lemmas.Bool.{cases_lt}
use Rattle.std.proofs.lemmas.List.FromFn.{fill_by_all}
use Rattle.book.specs.Layout.{entry_at}
use Rattle.book.proofs.block.decodes.decoded.Goals as goal
use denote.Param.Members.{Mut, Called}

-- an array that a function of the place made, by calls that leave it as it was
filled : {F : Type 0} (g : Mut F (ℕ × Unit {0}) ℕ) (v : ℕ → ℕ) (f : F) (ys : List ℕ) (call : (i y : ℕ) (q : F) → Called g f (i, tt) y q → (q ≡ f) × (y ≡ v i)) (n i j : ℕ) → i ≤ j → j < i + n → IsFromFnResultFrom g f ys i n → get_or ys j 0 ≡ v j
filled g v f ys call zero i j low high made = absurd (omega arith)
filled {F} g v f ys call (suc n) i j low high (q, y, at, called, more) =
    let then = call i y q called in
    let P : F → Type 0 = λ p. IsFromFnResultFrom g p ys (i + 1) n in
    elim (cases_lt i j) [
      | inl less ↦ filled g v f ys call n (i + 1) j (omega arith) (omega arith) (subst P then.0 more)
      | inr here ↦ let same : i ≡ j = omega arith in sym (ap (λ k. get_or ys k 0) same) ∙ (at.1 0 ∙ then.1) ∙ ap v same
    ]

pub returns : goal.returns
returns c =
    let made = c.from_fn.ensures.items in
    fill_by_all (entry_at c.args.bytes.now) c.from_fn.result 64 0 made.long (λ j h. filled _ (entry_at c.args.bytes.now) _ c.from_fn.result (λ i y q k. search rules) 64 0 j (omega arith) (omega arith) made.each)
