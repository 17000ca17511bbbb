use Rattle.std.proofs.Common.{◌≡◌, ℕ, Some, None, Option, refl, ◌∙◌, is_some}
use Rattle.std.specs.Option.{unwrap_or}
use Rattle.courses.specs.Steps.{server_after}
use Rattle.stages.specs.Opens.{open_course}
use Rattle.stages.proofs.server.Server.held.Goals as goal

pub returns : goal.returns
unfolding server_after
returns g c =
    let s = c.args.self.now in
    c.unwrap_or.ensures ∙ now s.waiting
  where
    now : (o : Option ℕ) → unwrap_or o 0 ≡ open_course (is_some o) (server_after (unwrap_or o 0) (g.E.Flow.course c.args.self.now.events) (g.S.Flow.course c.args.self.now.service)) 0
    now None = refl
    now (Some w) = refl
