use Rattle.std.proofs.Common.{◌++◌, ◌∷◌, [], ◌∙◌, ap, true, false, replicate}
use Rattle.state_laws.specs.Flow.{flag_at}
use Rattle.js_nfa.proofs.FollowSetsSteps.{flag-only}
use Rattle.js_nfa.proofs.followers.read_one.Goals as goal

pub returns-clause-only : goal.returns-clause-only
returns-clause-only c =
    ap flag_at (c.push.ensures.flags ∙ ap (λ z. z ++ true ∷ []) (c.push_none.ensures.flags
    ∙ ap (λ z. z ++ replicate c.args.position false) c.clear.ensures.flags))
    ∙ flag-only c.args.position
