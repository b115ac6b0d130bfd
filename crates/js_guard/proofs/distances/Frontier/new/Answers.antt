-- The first entry is reached.
use Rattle.std.proofs.Common.{◌≡◌, ap, ◌∙◌, rules}
use Rattle.js_guard.specs.declared.distances.Frontier.{Frontier}
use Rattle.js_guard.proofs.Reaching.{nowhere, reaching-first}
use Rattle.js_guard.proofs.distances.Frontier.new.Goals as goal

pub returns-clause-search : goal.returns-clause-search
returns-clause-search c =
    let g = c.args.edges.now in
    let made : c.in_ok-vec.field-0.items ≡ nowhere c.len.result = search rules in
    let s : Frontier = record { distances = c.in_ok-vec.field-0; queue = c.new.result } in
    (reaching-first g c.args.first c.requires s c.reach.new.self (made ∙ ap nowhere c.len.ensures) c.new.ensures.items
    c.in_ok-reach.ensures).0
