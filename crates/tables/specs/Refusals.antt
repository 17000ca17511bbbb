-- The refusals by their numbers and words.
use Rattle.std.specs.Prelude.{ℕ, List, codes}
use Rattle.tables.specs.declared.refusal.Refusal.{Refusal}
use Rattle.tables.specs.declared.refusal.Refusal.TheVariants.{Length, Check, Kind, Frame, Table, Shape, Overload, Crowd, Promise, Clock, Log, List as Lists, Ring, Step}

abbrev pub number_of : Refusal → ℕ
number_of Length = 1
number_of Check = 2
number_of Kind = 3
number_of Frame = 4
number_of Table = 5
number_of Shape = 6
number_of Overload = 7
number_of Crowd = 8
number_of Promise = 9
number_of Clock = 10
number_of Log = 11
number_of Lists = 12
number_of Ring = 13
number_of Step = 14

abbrev pub word_of : Refusal → List ℕ
word_of Length = codes "length"
word_of Check = codes "check"
word_of Kind = codes "kind"
word_of Frame = codes "frame"
word_of Table = codes "table"
word_of Shape = codes "shape"
word_of Overload = codes "overload"
word_of Crowd = codes "crowd"
word_of Promise = codes "promise"
word_of Clock = codes "clock"
word_of Log = codes "log"
word_of Lists = codes "list"
word_of Ring = codes "ring"
word_of Step = codes "step"
