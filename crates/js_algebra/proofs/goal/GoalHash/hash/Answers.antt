use Rattle.std.proofs.Common.{map, ap, ◌∙◌}
use Rattle.std.specs.List.{fold}
use Rattle.js_algebra.specs.View.{signed_view}
use Rattle.js_algebra.specs.Equality.{goal_writes}
use Rattle.js_algebra.proofs.Equal.{slice-signed, writes-with_sign}
use Rattle.js_algebra.proofs.goal.GoalHash.hash.Goals as goal

pub returns : goal.returns
returns g c =
    c.hash.ensures ∙ ap (fold g.H.Hasher.write c.args.state.now) (slice-signed _ (λ x. writes-with_sign x.plus x.pos.0) _
    ∙ ap goal_writes (ap (λ l. map signed_view l) c.as_slice.ensures.value ∙ c.self.view_is))
