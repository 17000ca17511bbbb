-- A burst keeps its pair.
use Rattle.std.proofs.Common.{◌≡◌, ℕ, zero, suc, ◌+◌, ◌≤◌, replicate, Ok, sym, refl, ap, subst, arith}
use mathlib.Core.Path.{fun_ext}
use lib.ListN.{get_or-replicate}
use Rattle.courses.specs.Courses.{Keeps}
use Rattle.courses.proofs.Frames.{keeps_frames}
use Rattle.flows.proofs.Accepted.{passes, same_ok}
use Rattle.flows.specs.Views.{KeepsPair, tail}
use Rattle.tables.proofs.Sums.{sum_rises}
use Rattle.tables.specs.Courses.{sum}
use Rattle.tables.specs.Curves.{given}
use Rattle.tables.specs.Makes.{lawful_pair}
use Rattle.tables.specs.Tables.{Curves, curves, paired}
use Rattle.tables.specs.declared.pair.Pair.{Pair}
use Rattle.tables.specs.declared.refusal.Refusal.TheVariants.{Table as Lawless}
use Rattle.own_flow.specs.Bursts.{burst, burst_answer}

module _ (c : ℕ) where
  -- all of it has come after the first tick
  come : (t : ℕ) → sum (burst c) (suc t) ≡ c
  come zero = omega arith
  come (suc t) = omega (arith, come t)

  -- the windows up to the frame
  under : (i k : ℕ) → k ≤ 4 → sum (burst c) (i + k) ≤ sum (burst c) i + given (replicate 4 c) k
  under zero zero h = omega arith
  under zero (suc k) h = let e : 0 + suc k ≡ suc k = omega arith in omega (arith, ap (sum (burst c)) e, come k, get_or-replicate 4 k c 0 h)
  under (suc i) k h = let e : suc i + k ≡ suc (i + k) = omega arith in omega (arith, ap (sum (burst c)) e, come (i + k), come i)

  over : (i k : ℕ) → k ≤ 4 → sum (burst c) i + given (replicate 4 0) k ≤ sum (burst c) (i + k)
  over i zero h = let e : i + 0 ≡ i = omega arith in omega (arith, ap (sum (burst c)) e)
  over i (suc k) h = omega (arith, sum_rises (burst c) i (i + suc k) (omega arith), get_or-replicate {A = ℕ} 4 k 0 0 h)

-- and by frames all others
pub burst_keeps : (c : ℕ) (p : Pair) → Ok (curves p) ≡ burst_answer c → KeepsPair p (burst c)
burst_keeps c p h =
    let most = given (replicate 4 c) in
    let least = given (replicate 4 0) in
    let made = paired 4 most least in
    let accepted = passes (lawful_pair (replicate 4 c) (replicate 4 0)) (curves p) (Ok made) Lawless h in
    let shown : Curves → Type 0 = λ q. Keeps q.most q.least (burst c) in
    subst shown (sym (same_ok (curves p) made accepted.1))
    (record { to = λ T. keeps_frames T 4 most least (burst c) (omega arith) (λ i k few _. under c i k few) (λ i k few _. over c i k few) })

-- after the burst
pub burst_over : (c : ℕ) → burst 0 ≡ tail (burst c)
burst_over c = fun_ext none
  where
    none : (t : ℕ) → burst 0 t ≡ tail (burst c) t
    none zero = refl
    none (suc t) = refl

pub burst_closed : burst 0 ≡ (λ _. 0)
burst_closed = burst_over 0
