-- The largest and the smallest of a range of values, and tests over a range of numbers. Both ends of a range belong to it.
use Rattle.std.specs.Prelude.{◌≡◌, ℕ, zero, suc, ◌-◌, ◌≤◌, min, max, Bool, true, cond, ◌&&◌, Some, None, Option}

-- calls that give, at each number k up to n, f k
abbrev pub Gives : {X : Type 0} → (ℕ → X → Type 0) → ℕ → (ℕ → X) → Type 0
Gives {X} post n f = (k : ℕ) (r : X) → k ≤ n → post k r → r ≡ f k

-- the values f k, k from 0 to n, taken together by op from the first on
unfoldable pub chosen : (ℕ → ℕ → ℕ) → ℕ → (ℕ → ℕ) → ℕ
chosen op zero f = f 0
chosen op (suc n) f = op (chosen op n f) (f (suc n))

-- the largest f k, k from 0 to n
unfoldable pub largest : ℕ → (ℕ → ℕ) → ℕ
largest zero f = f 0
largest (suc n) f = max (largest n f) (f (suc n))

-- the smallest f k, k from 0 to n
unfoldable pub smallest : ℕ → (ℕ → ℕ) → ℕ
smallest zero f = f 0
smallest (suc n) f = min (smallest n f) (f (suc n))

-- the smallest number that passes, of the n from k on
unfoldable pub seek : ℕ → ℕ → (ℕ → Bool) → Option ℕ
seek k zero p = None
seek k (suc n) p = cond (p k) (Some k) (seek (suc k) n p)

-- the smallest number that passes, of those from a to b
unfoldable pub first : ℕ → ℕ → (ℕ → Bool) → Option ℕ
first a b p = seek a (suc b - a) p

-- each of the n numbers from k on passes
unfoldable pub all : ℕ → ℕ → (ℕ → Bool) → Bool
all k zero p = true
all k (suc n) p = p k && all (suc k) n p

-- each number from a to b passes
unfoldable pub every : ℕ → ℕ → (ℕ → Bool) → Bool
every a b p = all a (suc b - a) p
