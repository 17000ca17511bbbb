use Rattle.std.proofs.Common.{refl}
use Rattle.courses.proofs.Busy.{passes}
use Rattle.courses.proofs.Frames.{keeps_repeated}
use Rattle.courses.proofs.Shaping.{curve, shaper_bounds, shaper_passed}
use Rattle.courses.proofs.shapers.shaper_stands.Goals as goal

pub returns : goal.returns
returns c = record {
  value = refl;
  law = (
    λ T N h a p G rule R. passes (curve G R rule),
    λ T N h mE lE a p G rule K R settled. shaper_bounds G rule K R settled,
    λ T N h mE lE a p G rule K R settled. keeps_repeated N G.some (shaper_passed G rule K R settled),
  );
}
