use Rattle.std.proofs.Common.{refl}
use Rattle.courses.proofs.Sums.{keeps_later, keeps_sooner, keeps_same}
use Rattle.courses.proofs.kept.kept_stands.Goals as goal

pub returns : goal.returns
returns c = record {
  value = refl;
  law = (λ T n most least a K. keeps_later n K, λ S T most least a h K. keeps_sooner S h K, λ T most least a b S K. keeps_same S K);
}
