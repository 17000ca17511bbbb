use Rattle.std.proofs.Common.{refl}
use Rattle.courses.proofs.Bottoms.{keeps_steady, clocked_sum, keeps_clocked, keeps_slotted, keeps_recorded}
use Rattle.courses.proofs.bottom_flows.bottoms_stand.Goals as goal

pub returns : goal.returns
returns c = record {
  value = refl;
  law = (
    keeps_steady,
    λ p j some. (keeps_clocked p j some, clocked_sum p j some),
    keeps_slotted,
    λ N most xs G inside. keeps_recorded xs G inside,
  );
}
