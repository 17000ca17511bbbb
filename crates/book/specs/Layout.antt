-- A block has 512 bytes: kind, frame, six zeros, 64 most entries, 64 least entries, 116 zeros, and the check.
use Rattle.std.specs.Prelude.{ℕ, ◌+◌, ◌*◌, ◌%◌, Bool, true, ◌&&◌, List, [], ◌∷◌, map, take, drop, ◌==◌, nat_le, slice_index}
use Rattle.std.specs.List.{range_with_len}
use Rattle.book.specs.Sums.{total, running}

abbrev pub all_zero : List ℕ → Bool
all_zero [] = true
all_zero (x ∷ xs) = x == 0 && all_zero xs

-- the two bytes at i, high byte first
abbrev pub two_bytes : List ℕ → ℕ → ℕ
two_bytes b i = 256 * slice_index b i + slice_index b (i + 1)

-- the check holds the two sums of the bytes before it, modulo 65,535
unfoldable pub checked : List ℕ → Bool
checked b =
    (total (take 508 b) % 65535 == two_bytes b 508)
    && running (take 508 b) % 65535 == two_bytes b 510

-- the kind is known, and the fixed zeros are 0
unfoldable pub known : List ℕ → Bool
known b = (nat_le 1 (slice_index b 0) && nat_le (slice_index b 0) 3) && (all_zero (take 6 (drop 2 b)) && all_zero (take 116 (drop 392 b)))

abbrev pub most_bytes : List ℕ → List ℕ
most_bytes b = take 192 (drop 8 b)

abbrev pub least_bytes : List ℕ → List ℕ
least_bytes b = take 192 (drop 200 b)

-- entry k, from 0 on: three bytes, high byte first
abbrev pub entry_at : List ℕ → ℕ → ℕ
entry_at bs k = 65536 * slice_index bs (3 * k) + 256 * slice_index bs (3 * k + 1) + slice_index bs (3 * k + 2)

-- all 64 entries
abbrev pub entries : List ℕ → List ℕ
entries bs = map (entry_at bs) (range_with_len 0 64)
