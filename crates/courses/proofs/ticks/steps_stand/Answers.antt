use Rattle.std.proofs.Common.{refl}
use Rattle.courses.proofs.Steps.{serves, serves_only, served_sum, server_after_later, served_later, shapes, shapes_only, shaped_sum, past_lately, shaper_after_later, shaped_later}
use Rattle.courses.proofs.ticks.steps_stand.Goals as goal

pub returns : goal.returns
returns c = record {
  value = refl;
  law = (
    λ a c. record {
      rule = λ T. serves T a c;
      only = λ T p P. serves_only P (serves T a c);
      account = λ w. served_sum w a c;
      state_later = λ w. server_after_later w a c;
      course_later = λ w. served_later w a c;
    },
    λ N h a. record {
      rule = shapes N h a;
      only = λ few T p P. shapes_only P (shapes N h a few T);
      account = λ s. shaped_sum N h s a;
      before = past_lately N h a;
      state_later = λ s. shaper_after_later N h s a;
      course_later = λ s. shaped_later N h s a;
    },
  );
}
