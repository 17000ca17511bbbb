-- How long messages take.
use Rattle.std.specs.Prelude.{ℕ, ◌+◌, ◌-◌, max, Bool, true, false, ◌&&◌, List, [], ◌∷◌, map, replicate, codes, decimal, nat_lt, slice_index}
use Rattle.std.specs.List.{concat, enumerate_from, flat_map, fold, sum_by, zip}
use Rattle.cabinet.specs.declared.messages.Message.{Message}
use Rattle.cabinet.specs.declared.messages.Sender.{Sender}
use Rattle.cabinet.specs.declared.messages.Sent.{Sent}
use Rattle.cabinet.specs.declared.sheets.Sheet.{Sheet}
use Rattle.cabinet.specs.declared.messages.Sender.TheVariants.{Pack, Temperature, Door}

-- the tick of each message: tick n + 1 as often as count number n says
abbrev pub ticks_of : List ℕ → List ℕ
ticks_of counts = flat_map (λ (p : ℕ × ℕ). replicate p.1 (p.0 + 1)) (enumerate_from 0 counts)

-- what all senders together hand over in tick t + 1
abbrev pub handed : Sheet → ℕ → ℕ
handed s t = slice_index s.door t + slice_index s.temperature t + sum_by (λ row. slice_index row t) s.packs

-- the longest time from a message's coming in to its going out, and 0 where there is none
abbrev pub longest_stay : List ℕ → List ℕ → ℕ
longest_stay ins outs = fold max 0 (map (λ (p : ℕ × ℕ). p.1 - p.0) (zip ins outs))

-- whether a message counts a cycle of a pack
abbrev pub cycle_counted : Sender → Bool
cycle_counted (Pack n) = true
cycle_counted Temperature = false
cycle_counted Door = false

abbrev text_of : Sender → ℕ → List ℕ
text_of (Pack p) n = concat (codes "pack " ∷ decimal p ∷ codes " cycle " ∷ decimal n ∷ [])
text_of Temperature n = concat (codes "temperature " ∷ decimal n ∷ [])
text_of Door n = concat (codes "door " ∷ decimal n ∷ [])

-- as "pack 2 cycle 5" and as "door 1"
abbrev pub message_text : Message → List ℕ
message_text m = text_of m.sender m.number

-- whether a message counts a cycle and took longer than a timer waits
abbrev pub outlasts : ℕ → Sent → ℕ → Bool
outlasts timer s until = cycle_counted s.message.sender && nat_lt timer (until - s.since)
