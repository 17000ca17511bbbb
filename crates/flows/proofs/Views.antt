-- A stage one tick later keeps its bounds too.
use Rattle.std.proofs.Common.{◌≡◌, ℕ, zero, suc, ◌+◌, ◌-◌, ◌≤◌, List, [], ◌∷◌, ◌++◌, map, IfSome, MatchResult, Some, None, Ok, Err, Option, Result, sym, ap, ◌∙◌, arith}
use mathlib.Core.Path.{fun_ext}
use Rattle.tables.specs.Courses.{sum, later}
use Rattle.tables.specs.declared.pair.Pair.{Pair}
use Rattle.flows.proofs.Kept.{keeps_tail}
use Rattle.flows.specs.Views.{KeepsPair, tail, View, Fine, next_view, All, look}
use Rattle.flows.specs.declared.bounds.StageBounds.{StageBounds}

-- one tick on
pub later_tail : {X : Type 0} (a : ℕ → X) → later 1 a ≡ tail a
later_tail a = fun_ext (λ t. let e : 1 + t ≡ suc t = omega arith in ap a e)

pub sum_tail : (a : ℕ → ℕ) (t : ℕ) → sum a (suc t) ≡ a 0 + sum (tail a) t
sum_tail a zero = omega arith
sum_tail a (suc t) = omega (arith, sum_tail a t)

found_by : (o : Option Pair) (P Q : Pair → Type 0) → ((p : Pair) → P p → Q p) → IfSome o P → IfSome o Q
found_by None P Q f h = tt
found_by (Some p) P Q f h = f p h

pub fine_next : (v : View) → Fine v → Fine (next_view v)
fine_next v F = record {
  account = λ t. F.account (suc t);
  few = λ t. F.few (suc t);
  within = λ t. F.within (suc t);
  keeps = keeps_tail F.keeps;
  rests = found_by v.bounds.rest (λ p. KeepsPair p v.rest) (λ p. KeepsPair p (tail v.rest)) (λ p. keeps_tail) F.rests;
  out = λ t.
      let d = v.bounds.delay in
      let e : suc t + d ≡ suc (t + d) = omega arith in
      omega (arith, F.out (suc t), F.account 0, sum_tail v.arrived t, sum_tail v.passed (t + d), ap (sum v.passed) e);
}

pub all_next : (vs : List View) → All Fine vs → All Fine (map next_view vs)
all_next [] h = tt
all_next (v ∷ vs) h = (fine_next v h.0, all_next vs h.1)

pub all_append : {X : Type 0} (P : X → Type 0) (xs ys : List X) → All P xs → All P ys → All P (xs ++ ys)
all_append P [] ys h k = k
all_append P (x ∷ xs) ys h k = (h.0, all_append P xs ys h.1 k)

-- looking further down
pub look_past : (v : View) (vs : List View) (k : ℕ) → 1 ≤ k → look (v ∷ vs) k ≡ look vs (k - 1)
look_past v vs zero h = absurd (omega arith)
look_past v vs (suc k) h = let e : k ≡ suc k - 1 = omega arith in ap (look vs) e

pub look_first : (us vs : List View) (k : ℕ) (b : StageBounds) → look us k ≡ Ok b → look (us ++ vs) k ≡ Ok b
look_first [] vs k b h = let z : ◌≡◌ {A = ℕ} 0 1 = cc in absurd (omega arith)
look_first (u ∷ us) vs zero b h = h
look_first (u ∷ us) vs (suc k) b h = look_first us vs k b h

pub look_second : (us vs : List View) (k j : ℕ) → look us k ≡ Err j → look (us ++ vs) k ≡ look vs j
look_second [] vs k j h = let e : k ≡ j = cc in ap (look vs) e
look_second (u ∷ us) vs zero j h = let z : ◌≡◌ {A = ℕ} 0 1 = cc in absurd (omega arith)
look_second (u ∷ us) vs (suc k) j h = look_second us vs k j h

-- an answer of the first list, or of what is past it in the second
pub look_both : (us vs : List View) (k : ℕ) (r out : Result StageBounds ℕ) (P : ℕ → Type 0) → r ≡ look us k
    → MatchResult r (λ b. out ≡ Ok b) P → ((j : ℕ) → P j → out ≡ look vs j) → out ≡ look (us ++ vs) k
look_both us vs k (Ok b) out P is h past = h ∙ sym (look_first us vs k b (sym is))
look_both us vs k (Err j) out P is h past = past j h ∙ sym (look_second us vs k j (sym is))
