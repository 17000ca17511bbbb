-- What is printed of a book, and whether the book is accepted.
use Rattle.std.specs.Prelude.{ℕ, Bool, true, false, List, string_bytes}
use Rattle.book.specs.declared.answers.Answer.{Answer}
use Rattle.book.specs.declared.answers.Answer.TheVariants.{Listing, Refused}

-- the text, as bytes
abbrev pub printed : Answer → List ℕ
printed (Listing s) = string_bytes s
printed (Refused s) = string_bytes s

abbrev pub is_listing : Answer → Bool
is_listing (Listing s) = true
is_listing (Refused s) = false
