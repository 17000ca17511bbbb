use Rattle.std.proofs.Common.{◌≡◌, ℕ, Some, None, Option, refl, ◌∙◌}
use Rattle.std.specs.Option.{unwrap_or}
use Rattle.courses.specs.Steps.{shaper_after}
use Rattle.stages.specs.ShaperViews.{shaping_view}
use Rattle.stages.proofs.shaper.Shaper.held.Goals as goal

pub returns : goal.returns
unfolding shaper_after
returns g c =
    let s = c.args.self.now in
    c.unwrap_or.ensures ∙ now s.waiting
  where
    now : (o : Option ℕ) → unwrap_or o 0 ≡ (shaping_view g.E.Flow o c.args.self.now.past c.args.self.now.events c.args.self.now.shaping c.args.self.now.bounds).waits 0
    now None = refl
    now (Some w) = refl
