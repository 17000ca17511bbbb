-- Each example is computed.
use Rattle.std.proofs.Common.{refl}
use Rattle.tables.specs.Bottoms.{clocked_most, slotted_most, slotted_least, kept_from, kept_by}
use Rattle.tables.specs.Curves.{repeated, lawful, nowhere_above, convolved, deconvolved, excess, growth, settling_length, covers, shortest_delay, subadditive_at, subadditive, most_passed}
use Rattle.tables.specs.Ranges.{largest, smallest, seek, first, all, every}
use Rattle.courses.specs.Steps.{server_after, served, shaper_after, shaped}
use Rattle.worked.specs.Examples.{Serves, Shapes, Runs, Rules, Steady, Shortest, Limits, Clocks, Records}

pub serves : Serves
unfolding largest smallest seek first all every repeated lawful nowhere_above convolved deconvolved excess settling_length covers shortest_delay most_passed slotted_most slotted_least
serves = record { events_are = refl; slots_are = refl; bounds = refl }

pub shapes : Shapes
unfolding largest smallest seek first all every repeated lawful nowhere_above convolved deconvolved excess growth settling_length covers shortest_delay subadditive_at subadditive most_passed slotted_most slotted_least
shapes = record { bounds = refl }

pub runs : Runs
unfolding smallest repeated server_after served shaper_after shaped
runs = record { passed = refl; waiting = refl; through_shaper = refl }

pub rules : Rules
unfolding largest smallest seek first all every repeated lawful convolved excess growth covers shortest_delay subadditive_at subadditive
rules = record { keeps = refl; accepts = refl; refuses_within = refl; refuses_past = refl; at_three = refl; at_six = refl }

pub steady : Steady
unfolding largest smallest seek first all every repeated lawful nowhere_above convolved deconvolved excess settling_length covers shortest_delay most_passed
steady = record { passed_least = refl; rest_most = refl }

pub shortest : Shortest
unfolding largest smallest seek first all every repeated lawful nowhere_above convolved deconvolved excess settling_length covers shortest_delay most_passed
shortest = record { overload = refl; wait = refl; delay = refl }

pub limits : Limits
unfolding all every repeated lawful
limits = record { largest = refl; too_large = refl; none = refl; longest = refl; too_long = refl; no_frame = refl; frame_too_long = refl }

pub clocks : Clocks
unfolding repeated clocked_most
clocks = record { pair = refl }

pub records : Records
unfolding all every repeated lawful kept_from kept_by
records = record { refuses = refl; accepts_none = refl; accepts = refl }
