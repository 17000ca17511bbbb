-- Items of a list that are written one after another.
use Rattle.std.proofs.Common.{◌≡◌, ℕ, suc, ◌+◌, ◌<◌, List, [], ◌∷◌, ◌++◌, length, get_or, take, sym, ap, ◌∙◌, append_assoc, append-nil, arith}
use Rattle.std.proofs.Output.{has_written_append, has_written_of_eq}
use Rattle.std.proofs.lemmas.List.{take_more, length-take-le}
use Rattle.std.specs.Fmt.{HasWritten}
use Rattle.std.specs.declared.fmt.Formatter.{Formatter}

-- `all n` is the text of a list whose first item has the place n, and `one n` that of an item
module _ {X : Type 0} (all : ℕ → List X → List ℕ) (one : ℕ → X → List ℕ) (none : (n : ℕ) → all n [] ≡ []) (step : (n : ℕ) (x : X) (xs : List X) → all n (x ∷ xs) ≡ one n x ++ all (suc n) xs) where
  all_append : (n m : ℕ) (xs : List X) (x : X) → n + length xs ≡ m → all n (xs ++ (x ∷ [])) ≡ all n xs ++ one m x
  all_append n m [] x e =
      let here : n ≡ m = omega arith in
      step n x [] ∙ ap (λ t. one n x ++ t) (none (suc n)) ∙ append-nil (one n x) ∙ ap (λ k. one k x) here ∙ ap (λ t. t ++ one m x) (sym (none n))
  all_append n m (y ∷ ys) x e =
      step n y (ys ++ (x ∷ [])) ∙ ap (λ t. one n y ++ t) (all_append (suc n) m ys x (omega arith)) ∙ sym (append_assoc (one n y) (all (suc n) ys) (one m x)) ∙ ap (λ t. t ++ one m x) (sym (step n y ys))

  module _ {W : Type 0} (took : W → List ℕ → W → Type 0) (f g : Formatter W) (n : ℕ) (xs : List X) (i : ℕ) where
    -- a turn that writes the item at i, from g to h
    pub put_item : (h : Formatter W) (d : X) → i < length xs → HasWritten took f (all n (take i xs)) g → HasWritten took g (one (n + i) (get_or xs i d)) h → HasWritten took f (all n (take (i + 1) xs)) h
    put_item h d less before here =
        has_written_of_eq took f (all n (take i xs) ++ one (n + i) (get_or xs i d)) (all n (take (i + 1) xs)) h
        (sym (ap (all n) (take_more xs i d less) ∙ all_append n (n + i) (take i xs) (get_or xs i d) (ap (λ k. n + k) (length-take-le i xs (omega arith)))))
        (has_written_append took f (all n (take i xs)) g (one (n + i) (get_or xs i d)) h before here)
