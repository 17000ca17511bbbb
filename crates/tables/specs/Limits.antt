-- The limits that tables and clocks keep.
use Rattle.std.specs.Prelude.{ℕ}

-- the longest frame
abbrev pub longest : ℕ
longest = 64

-- the largest entry of a table
abbrev pub limit : ℕ
limit = 1000000

-- the longest period of a clock
abbrev pub longest_period : ℕ
longest_period = 10000

-- the longest jitter
abbrev pub longest_jitter : ℕ
longest_jitter = 10000
