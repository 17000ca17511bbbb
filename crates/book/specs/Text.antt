-- The listing of a book, as bytes.
use Rattle.std.specs.Prelude.{ℕ, suc, ◌+◌, List, [], ◌∷◌, ◌++◌, Ok, Err, codes, decimal, Result}
use Rattle.std.specs.List.{concat}
use Rattle.tables.specs.Kinds.{kind_word}
use Rattle.tables.specs.Refusals.{number_of}
use Rattle.tables.specs.Tables.{Curves, row}
use Rattle.book.specs.Books.{Chained, Turned}
use Rattle.book.specs.Chains.{Staged}

-- each number in decimal, after one space
abbrev pub spaced : List ℕ → List ℕ
spaced [] = []
spaced (x ∷ xs) = 32 ∷ (decimal x ++ spaced xs)

-- the entries of a pair at the lengths of its frame
abbrev pub most_text : Curves → List ℕ
most_text p = spaced (row p.frame p.most)

abbrev pub least_text : Curves → List ℕ
least_text p = spaced (row p.frame p.least)

-- as "frame 2", and then "1 events most 2 3 least 0 1"
abbrev pub first_text : Curves → List ℕ
first_text p = concat (codes "frame " ∷ decimal p.frame ∷ codes "\n1 events most" ∷ most_text p ∷ codes " least" ∷ least_text p ∷ codes "\n" ∷ [])

-- as "2 server most 2 3 least 0 1 wait 2 delay 2"
abbrev pub line_text : ℕ → Staged → List ℕ
line_text place s = concat (decimal place ∷ codes " " ∷ kind_word s.stage ∷ codes " most" ∷ most_text s.pair ∷ codes " least" ∷ least_text s.pair ∷ codes " wait " ∷ decimal s.wait ∷ codes " delay " ∷ decimal s.delay ∷ codes "\n" ∷ [])

-- the lines of the blocks from place n on
abbrev pub lines_text : ℕ → List Staged → List ℕ
lines_text n [] = []
lines_text n (s ∷ ss) = line_text n s ++ lines_text (suc n) ss

-- the waits and the delays of all stages, added up
abbrev pub total_wait : List Staged → ℕ
total_wait [] = 0
total_wait (s ∷ ss) = s.wait + total_wait ss

abbrev pub total_delay : List Staged → ℕ
total_delay [] = 0
total_delay (s ∷ ss) = s.delay + total_delay ss

-- as "total wait 3 delay 3"
abbrev pub totals_text : ℕ → ℕ → List ℕ
totals_text w d = concat (codes "total wait " ∷ decimal w ∷ codes " delay " ∷ decimal d ∷ codes "\n" ∷ [])

-- the listing of a chain
abbrev pub listing_text : Chained → List ℕ
listing_text c = first_text c.first ++ (lines_text 2 c.stages ++ totals_text (total_wait c.stages) (total_delay c.stages))

-- as "refused 7 block 2"
abbrev pub refused_text : Turned → List ℕ
refused_text t = concat (codes "refused " ∷ decimal (number_of t.refusal) ∷ codes " block " ∷ decimal t.block ∷ codes "\n" ∷ [])

-- what is printed of a book
abbrev pub answer_text : Result Chained Turned → List ℕ
answer_text (Ok c) = listing_text c
answer_text (Err t) = refused_text t
