-- The numbers that a wave expands are those of the goals that wait.
use Rattle.std.proofs.Common.{◌≡◌, ◌-◌, length, ap₂, ◌∙◌, arith}
use Rattle.std.specs.List.{range_with_len}
use Rattle.std.proofs.lemmas.Result.{IfOk-weaker}
use Rattle.js_explore.specs.ExploredView.{found_view}
use Rattle.js_explore.proofs.WaveSteps.{if_both, count, each_taken, each_answered}
use Rattle.js_explore.proofs.waves.Waves.ask.Goals as goal

pub map_items-requires-clause-taken : goal.map_items-requires-clause-taken
map_items-requires-clause-taken g c κs within =
    let s = found_view c.args.search.now in
    let waiting : c.as_slice.result.now ≡ range_with_len s.taken (length s.goals - s.taken) =
    c.as_slice.ensures.value ∙ c.in_ok-waiting.ensures
    ∙ ap₂ (λ a b. range_with_len a (b - a)) c.taken.ensures c.len.ensures in
    each_taken c.as_slice.result.now s.taken (length s.goals - s.taken) waiting
    (g.E.Expander.takes c.args.self.now.expander.now) s.goals (omega (arith, c.requires.taken)) c.requires.takes

pub returns-clause-count : goal.returns-clause-count
returns-clause-count g c =
    let s = found_view c.args.search.now in
    let waiting : c.as_slice.result.now ≡ range_with_len s.taken (length s.goals - s.taken) =
    c.as_slice.ensures.value ∙ c.in_ok-waiting.ensures
    ∙ ap₂ (λ a b. range_with_len a (b - a)) c.taken.ensures c.len.ensures in
    IfOk-weaker c.map_items.result (λ v. length v ≡ length c.as_slice.result.now)
    (λ v. length v ≡ length s.goals - s.taken)
    (λ v e. e ∙ count c.as_slice.result.now s.taken (length s.goals - s.taken) waiting) c.map_items.ensures.count

pub returns-clause-each : goal.returns-clause-each
returns-clause-each g c =
    let s = found_view c.args.search.now in
    let waiting : c.as_slice.result.now ≡ range_with_len s.taken (length s.goals - s.taken) =
    c.as_slice.ensures.value ∙ c.in_ok-waiting.ensures
    ∙ ap₂ (λ a b. range_with_len a (b - a)) c.taken.ensures c.len.ensures in
    if_both c.map_items.result
    (each_answered c.as_slice.result.now s.taken (length s.goals - s.taken) waiting
    (g.E.Expander.expansion c.args.self.now.expander.now) s.goals) c.map_items.ensures.count c.map_items.ensures.each
