use Rattle.std.proofs.Common.{refl}
use Rattle.courses.proofs.Busy.{passes}
use Rattle.courses.proofs.Frames.{keeps_repeated}
use Rattle.courses.proofs.Serving.{curve, rest_sum, server_bounds, server_passed, server_rest}
use Rattle.courses.proofs.servers.server_stands.Goals as goal

pub returns : goal.returns
returns c = record {
  value = refl;
  law = (
    λ T a c p R. (passes (curve R), rest_sum R),
    λ T D mE lE mS lS a c p K L R some settled. (server_bounds D K L R some settled, server_rest D K L R some settled),
    λ T N D mE lE mS lS a c p frame K L R some settled.
        (keeps_repeated N frame (server_passed D K L R some settled), keeps_repeated N frame (server_rest D K L R some settled)),
  );
}
