-- The arithmetic of curves. A curve gives a count for each length.
use Rattle.std.specs.Prelude.{◌≡◌, ℕ, zero, suc, ◌+◌, ◌-◌, ◌*◌, ◌/◌, ◌%◌, ◌<◌, ◌≤◌, min, Bool, ◌&&◌, leb, List, Option, nat_le, slice_index}
use Rattle.std.specs.Option.{unwrap_or}
use Rattle.tables.specs.Limits.{longest, limit}
use Rattle.tables.specs.Ranges.{largest, smallest, first, every}

-- the entry past the frame: at the length m * n + r, with r below n, it is m times f n, and f r
unfoldable pub repeated : ℕ → (ℕ → ℕ) → ℕ → ℕ
repeated n f k = (k / n) * f n + f (k % n)

-- what may fill a table of frame n
pub record Graph (n : ℕ) (f : ℕ → ℕ) : Type 0 where
  pub some : 1 ≤ n
  pub few : n ≤ longest
  pub starts : f 0 ≡ 0
  pub rises : (k : ℕ) → k < n → f k ≤ f (k + 1)
  pub limited : f n ≤ limit

-- the curve of the counts xs at the lengths from 1 on
abbrev pub given : List ℕ → ℕ → ℕ
given xs zero = 0
given xs (suc k) = slice_index xs k

-- no count from 1 to n is smaller than the one before it or above the limit
unfoldable pub lawful : ℕ → (ℕ → ℕ) → Bool
lawful n f = every 1 n (λ k. nat_le (f (k - 1)) (f k) && nat_le (f k) limit)

-- g is nowhere above f, from 1 to n
unfoldable pub nowhere_above : ℕ → (ℕ → ℕ) → (ℕ → ℕ) → Bool
nowhere_above n f g = every 1 n (λ k. leb (g k) (f k))

-- min-plus convolution: the smallest f u + g (k - u), u from 0 to k
unfoldable pub convolved : (ℕ → ℕ) → (ℕ → ℕ) → ℕ → ℕ
convolved f g k = smallest k (λ u. f u + g (k - u))

-- min-plus deconvolution over the lengths 0 to m: the largest f (k + i) - g i
unfoldable pub deconvolved : ℕ → (ℕ → ℕ) → (ℕ → ℕ) → ℕ → ℕ
deconvolved m f g k = largest m (λ i. f (k + i) - g i)

-- how far f comes above g: the largest f u - g u, u from 0 to k
unfoldable pub excess : (ℕ → ℕ) → (ℕ → ℕ) → ℕ → ℕ
excess f g k = largest k (λ u. f u - g u)

-- the least growth of h over k ticks: the smallest h (k + i) - h i, i from 0 to m
unfoldable pub growth : ℕ → (ℕ → ℕ) → ℕ → ℕ
growth m h k = smallest m (λ i. h (k + i) - h i)

-- the settling length: the smallest from 1 to n where f is at most g
unfoldable pub settling_length : ℕ → (ℕ → ℕ) → (ℕ → ℕ) → Option ℕ
settling_length n f g = first 1 n (λ k. leb (f k) (g k))

-- f k ≤ g (k + d) for every k from 0 to n
unfoldable pub covers : ℕ → (ℕ → ℕ) → (ℕ → ℕ) → ℕ → Bool
covers n f g d = every 0 n (λ k. leb (f k) (g (k + d)))

-- the smallest such d from 0 to n; 0 where there is none
unfoldable pub shortest_delay : ℕ → (ℕ → ℕ) → (ℕ → ℕ) → ℕ
shortest_delay n f g = unwrap_or (first 0 n (covers n f g)) 0

-- h (a + b) ≤ h a + h b for every b from 1 to n
unfoldable pub subadditive_at : ℕ → (ℕ → ℕ) → ℕ → Bool
subadditive_at n h a = every 1 n (λ b. leb (h (a + b)) (h a + h b))

-- the shaping rule: the same for every a from 1 to n
unfoldable pub subadditive : ℕ → (ℕ → ℕ) → Bool
subadditive n h = every 1 n (subadditive_at n h)

-- what a server passes at most, of the most e of its events, the most s and the least l of its service, and the settling length d
unfoldable pub most_passed : ℕ → (ℕ → ℕ) → (ℕ → ℕ) → (ℕ → ℕ) → ℕ → ℕ
most_passed d e s l k = min (s k) (deconvolved (d - 1) (convolved e s) l k)

-- d is the smallest length from 1 to n where f is at most g
pub record Settles (n : ℕ) (f g : ℕ → ℕ) (d : ℕ) : Type 0 where
  pub some : 1 ≤ d
  pub within : d ≤ n
  pub settled : f d ≤ g d
  pub earliest : (k : ℕ) → 1 ≤ k → f k ≤ g k → d ≤ k

-- d is the smallest number with f k ≤ g (k + d) for every k from 0 to n
pub record Shortest (n : ℕ) (f g : ℕ → ℕ) (d : ℕ) : Type 0 where
  pub enough : (k : ℕ) → k ≤ n → f k ≤ g (k + d)
  pub least : (c : ℕ) → ((k : ℕ) → k ≤ n → f k ≤ g (k + c)) → d ≤ c
