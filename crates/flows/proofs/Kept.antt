-- What is kept a tick later, and by the pair of what hands over nothing.
use Rattle.std.proofs.Common.{◌≡◌, ℕ, zero, suc, ◌+◌, ◌≤◌, sym, refl, ap, subst, one-add, arith}
use mathlib.Core.Path.{fun_ext}
use Rattle.courses.specs.Courses.{Keeps}
use Rattle.courses.proofs.Frames.{keeps_repeated}
use Rattle.courses.proofs.Sums.{keeps_all, keeps_later}
use Rattle.tables.specs.Courses.{sum, later}
use Rattle.tables.specs.Tables.{Curves, curves, paired}
use Rattle.tables.specs.declared.pair.Pair.{Pair}
use Rattle.flows.specs.Views.{KeepsPair, tail}

pub keeps_tail : {most least a : ℕ → ℕ} → Keeps most least a → Keeps most least (tail a)
keeps_tail {most} {least} {a} k =
    let shift : later 1 a ≡ tail a = fun_ext (λ t. ap a (one-add t)) in
    subst (Keeps most least) shift (record { to = λ T. keeps_later 1 (k.to (1 + T)) })

-- the course of a state that comes next
pub keeps_next : (p : Pair) {a b : ℕ → ℕ} → b ≡ tail a → KeepsPair p a → KeepsPair p b
keeps_next p e k = subst (KeepsPair p) (sym e) (keeps_tail k)

-- a pair by its curves
pub keeps_by : (p : Pair) (n : ℕ) {most least a : ℕ → ℕ} → 1 ≤ n → curves p ≡ paired n most least → Keeps most least a → KeepsPair p a
keeps_by p n {a = a} some e k =
    let shown : Curves → Type 0 = λ c. Keeps c.most c.least a in
    subst shown (sym e) (record { to = λ T. keeps_repeated n some (k.to T) })

pub keeps_nothing : (p : Pair) → curves p ≡ paired 1 (λ _. 0) (λ _. 0) → KeepsPair p (λ _. 0)
keeps_nothing p e = keeps_by p 1 (omega arith) e (keeps_all (λ i k. omega (arith, none i, none (i + k))) (λ i k. omega (arith, none i, none (i + k))))
  where
    none : (t : ℕ) → sum (λ _. 0) t ≡ 0
    none zero = refl
    none (suc t) = omega (arith, none t)
