use Rattle.std.proofs.Common.{refl}
use Rattle.courses.proofs.Steps.{served_same, shaped_same}
use Rattle.courses.proofs.causal.causal_stands.Goals as goal

pub returns : goal.returns
returns c = record {
  value = refl;
  law = (λ T w a b c d A C. served_same w A C, λ T N h s a b A. shaped_same N h s A);
}
