-- What is promised of the stages that a message comes through.
use Rattle.std.specs.Prelude.{ℕ, List, Some, None, Ok, Err, Option, Result, codes}
use Rattle.flows.specs.Views.{View, look}
use Rattle.flows.specs.declared.bounds.StageBounds.{StageBounds}
use Rattle.cabinet.specs.declared.fits.Limit.{Limit}
use Rattle.cabinet.specs.declared.fits.Place.{Place}
use Rattle.cabinet.specs.declared.fits.Place.TheVariants.{Shaper, Controller, Bus, Traffic, Chargers, FirstTwo, LastTwo, Others}
use Rattle.cabinet.specs.declared.fits.Promised.{Promised}

abbrev pub name : Place → List ℕ
name Shaper = codes "shaper"
name Controller = codes "controller"
name Bus = codes "bus"
name Traffic = codes "all traffic"
name Chargers = codes "the four chargers"
name FirstTwo = codes "chargers 1 and 2"
name LastTwo = codes "chargers 3 and 4"
name Others = codes "temperature and door"

-- how many stages are above
abbrev pub above : Place → ℕ
above Shaper = 0
above Controller = 1
above Bus = 2
above Traffic = 3
above Chargers = 4
above FirstTwo = 5
above LastTwo = 6
above Others = 7

abbrev pub limit : StageBounds → Limit
limit b = record { wait = b.wait; delay = b.delay }

abbrev limit_of : Result StageBounds ℕ → Option Limit
limit_of (Ok b) = Some (limit b)
limit_of (Err p) = None

-- the bounds at a place, where the network has that place
abbrev pub limit_at : List View → Place → Option Limit
limit_at vs p = limit_of (look vs (above p))

-- the bounds at the places 0, 1 and 2, where there is a stage at place 7
abbrev all_four : Result StageBounds ℕ → Result StageBounds ℕ → Result StageBounds ℕ → Result StageBounds ℕ → Option Promised
all_four (Ok l) (Ok s) (Ok c) (Ok b) = Some (record { bus = limit b; controller = limit c; shaper = limit s })
all_four (Ok l) (Ok s) (Ok c) (Err p) = None
all_four (Ok l) (Ok s) (Err p) b = None
all_four (Ok l) (Err p) c b = None
all_four (Err p) s c b = None

abbrev pub promised : List View → Option Promised
promised vs = all_four (look vs 7) (look vs 0) (look vs 1) (look vs 2)
