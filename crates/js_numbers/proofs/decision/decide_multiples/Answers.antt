use Rattle.std.proofs.Common.{◌<◌, ◌^◌, sym, subst}
use Rattle.js_numbers.proofs.Deciding.{lcm_of_positive}
use Rattle.js_numbers.proofs.decision.decide_multiples.Goals as goal

pub search-requires-clause-step : goal.search-requires-clause-step
search-requires-clause-step c =
    let (small, same) = c.in-Some.ensures in (
      subst (λ n. 0 < n) (sym same) (lcm_of_positive c.args.group.now.multiples.now),
      subst (λ n. n < 2 ^ 127) (sym same) small,
    )
