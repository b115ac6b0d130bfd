-- The filler's goal is of the round.
use Rattle.std.proofs.Common.{◌≡◌, ◌++◌, [], cond, true, ap, ap₂, sym, ◌∙◌, rules}
use Rattle.search.specs.Uses.{repeated}
use Rattle.js_expansion.specs.View.{slot_view}
use Rattle.js_rounds.specs.Seen.{seen}
use Rattle.js_rounds.specs.Spread.{spread}
use Rattle.js_rounds.proofs.SpreadLemmas.{spread_push}
use Rattle.js_rounds.proofs.runs.add_filler.Goals as goal

pub returns-clause-found : goal.returns-clause-found
returns-clause-found c =
    let has : seen c.args.known.now c.args.round c.args.filler.now.goal ≡ true = search rules in
    let f = c.args.filler.now in
    ap spread c.in_ok-push.ensures.items
    ∙ spread_push c.args.found.now.items (record { slot = f.slot; goal = f.goal; count = c.min.result })
    ∙ ap₂ (λ n b. spread c.args.found.now.items ++ cond b (repeated (slot_view f.slot) n f.goal) []) c.min.ensures
    (sym has)
