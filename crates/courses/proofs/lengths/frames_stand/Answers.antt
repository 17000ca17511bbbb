use Rattle.std.proofs.Common.{◌+◌, refl}
use Rattle.courses.proofs.Frames.{keeps_frames, subadditive_all}
use Rattle.courses.proofs.lengths.frames_stand.Goals as goal

pub returns : goal.returns
returns c = record {
  value = refl;
  law = (keeps_frames, λ N h G rule i k. subadditive_all G rule i k (i + k) refl);
}
