-- Sums of courses, and the windows that they keep.
use Rattle.std.proofs.Common.{◌≡◌, ℕ, zero, suc, ◌+◌, ◌<◌, ◌≤◌, refl, ap, arith}
use Rattle.tables.proofs.Sums.{sum_later}
use Rattle.courses.specs.Courses.{KeepsTo, Keeps, SameTo, plus, waiting}
use Rattle.tables.specs.Courses.{later, sum}

pub sum_plus : (a b : ℕ → ℕ) (t : ℕ) → sum (plus a b) t ≡ sum a t + sum b t
sum_plus a b zero = refl
sum_plus a b (suc t) = omega (arith, sum_plus a b t)

pub sum_same : {T : ℕ} {a b : ℕ → ℕ} → SameTo T a b → (t : ℕ) → t ≤ T → sum a t ≡ sum b t
sum_same S zero l = refl
sum_same S (suc t) l = omega (arith, sum_same S t (omega arith), S.each t l)

-- no more passed than arrived, where no tick passes more than waited and arrived
pub passed_le : (T : ℕ) (a p : ℕ → ℕ) → ((t : ℕ) → t < T → p t ≤ waiting a p t + a t) → (t : ℕ) → t ≤ T → sum p t ≤ sum a t
passed_le T a p few zero l = omega arith
passed_le T a p few (suc t) l = omega (arith, few t l, passed_le T a p few t (omega arith))

-- the windows of a course, from one moment to another
pub record Within (T : ℕ) (most least A : ℕ → ℕ) : Type 0 where
  pub under : (i k j : ℕ) → i + k ≡ j → j ≤ T → A j ≤ A i + most k
  pub over : (i k j : ℕ) → i + k ≡ j → j ≤ T → A i + least k ≤ A j

pub within : {T : ℕ} {most least a : ℕ → ℕ} → KeepsTo T most least a → Within T most least (sum a)
within {T} {most} {least} {a} K = record {
  under = λ i k j e h. omega (arith, K.under i k (omega arith), ap (sum a) e);
  over = λ i k j e h. omega (arith, K.over i k (omega arith), ap (sum a) e);
}

-- windows that are kept at every moment
pub keeps_all : {most least a : ℕ → ℕ} → ((i k : ℕ) → sum a (i + k) ≤ sum a i + most k) → ((i k : ℕ) → sum a i + least k ≤ sum a (i + k)) → Keeps most least a
keeps_all under over = record { to = λ T. record { under = λ i k _. under i k; over = λ i k _. over i k } }

-- an earlier horizon
pub keeps_sooner : {T : ℕ} {most least a : ℕ → ℕ} (S : ℕ) → S ≤ T → KeepsTo T most least a → KeepsTo S most least a
keeps_sooner S h K = record {
  under = λ i k l. K.under i k (omega arith);
  over = λ i k l. K.over i k (omega arith);
}

-- a course that is the same up to T
pub keeps_same : {T : ℕ} {most least a b : ℕ → ℕ} → SameTo T a b → KeepsTo T most least a → KeepsTo T most least b
keeps_same S K = record {
  under = λ i k l. omega (arith, K.under i k l, sum_same S i (omega arith), sum_same S (i + k) l);
  over = λ i k l. omega (arith, K.over i k l, sum_same S i (omega arith), sum_same S (i + k) l);
}

-- a course later on keeps what the course keeps
pub keeps_later : {T : ℕ} {most least a : ℕ → ℕ} (n : ℕ) → KeepsTo (n + T) most least a → KeepsTo T most least (later n a)
keeps_later {a = a} n K = record {
  under = λ i k h. let z : n + (i + k) ≡ n + i + k = omega arith in omega (arith, sum_later a n i, sum_later a n (i + k), K.under (n + i) k (omega arith), ap (sum a) z);
  over = λ i k h. let z : n + (i + k) ≡ n + i + k = omega arith in omega (arith, sum_later a n i, sum_later a n (i + k), K.over (n + i) k (omega arith), ap (sum a) z);
}

-- courses together keep the curves together
pub keeps_plus : {T : ℕ} {m l n k a b : ℕ → ℕ} → KeepsTo T m l a → KeepsTo T n k b → KeepsTo T (plus m n) (plus l k) (plus a b)
keeps_plus {a = a} {b = b} A B = record {
  under = λ i k h. omega (arith, sum_plus a b i, sum_plus a b (i + k), A.under i k h, B.under i k h);
  over = λ i k h. omega (arith, sum_plus a b i, sum_plus a b (i + k), A.over i k h, B.over i k h);
}
