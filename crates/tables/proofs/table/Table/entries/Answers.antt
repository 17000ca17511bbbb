use Rattle.std.proofs.Common.{◌≡◌, ℕ, ◌+◌, ◌<◌, ◌≤◌, List, length, get_or, take, drop, sym, ◌∙◌, arith, rules}
use Rattle.std.proofs.lemmas.List.FromFn.{length-map-range_with_len, get_or-map-range_with_len}
use Rattle.std.proofs.lemmas.List.{same_lists, get_or_default, get_or-take, get_or-drop, length-take, length-drop}
use Rattle.tables.specs.Tables.{at, row}
use Rattle.tables.proofs.Tables.{near_is}
use Rattle.tables.proofs.table.Table.entries.Goals as goal

-- n places from 1 on
front : (xs : List ℕ) (m n : ℕ) (f : ℕ → ℕ) → m ≡ n → n < length xs → ((k : ℕ) → k ≤ n → get_or xs k 0 ≡ f k) → take m (drop 1 xs) ≡ row n f
front xs m n f e room is =
    same_lists _ _ (simp (length-take, length-drop, length-map-range_with_len) (omega arith))
    (λ k d h.
    let low : k < m = omega (arith, simp length-take at h) in
    get_or-take m (drop 1 xs) k d low ∙ get_or-drop 1 xs k d ∙ get_or_default xs (1 + k) d 0 (omega arith) ∙ is (1 + k) (omega arith) ∙ sym (get_or-map-range_with_len f 1 n k (1 + k) d (omega arith) (omega arith)))

pub returns : goal.returns
returns c =
    let t = c.args.self.now in
    front t.entries _ t.frame (at t) (omega arith) (search rules) (λ k h. near_is t k (omega arith))
