use Rattle.std.proofs.Common.{refl}
use Rattle.courses.proofs.Frames.{keeps_repeated}
use Rattle.courses.proofs.Sums.{keeps_plus}
use Rattle.courses.proofs.joins.join_stands.Goals as goal

pub returns : goal.returns
returns c = record {
  value = refl;
  law = λ T N mA lA mB lB a b frame A B. (keeps_plus A B, keeps_repeated N frame (keeps_plus A B));
}
