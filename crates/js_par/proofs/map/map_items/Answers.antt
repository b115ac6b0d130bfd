-- Each slot was filled, so the answers are those of the slots.
use Rattle.std.proofs.Common.{◌≡◌, ◌∙◌, List, map, subst, sym, arith, IsSome, Some}
use Rattle.std.specs.List.{All}
use Rattle.js_par.specs.Answered.{Answered}
use Rattle.js_par.proofs.Slots.{all-some, gathered-answers, written-over}
use Rattle.js_par.proofs.map.map_items.Goals as goal

pub gathered-requires : goal.gathered-requires
gathered-requires g c =
    let over =
    written-over c.in_ok-slots.slots.items c.fill.new.slots c.in_ok-slots.slots.len (omega arith) (omega arith) in
    subst (λ s. All IsSome s) (sym over)
    (all-some (g.T.Task.gives c.args.task.now) c.args.items.now c.fill.new.slots (omega arith) c.fill.ensures)

pub returns-clause-each : goal.returns-clause-each
returns-clause-each g c =
    let over =
    written-over c.in_ok-slots.slots.items c.fill.new.slots c.in_ok-slots.slots.len (omega arith) (omega arith) in
    let answers : List g.row.T-Answer.Denot = c.in_ok-gathered.field-0.items in
    let held : map Some answers ≡ c.fill.new.slots = c.in_ok-gathered.ensures ∙ over in
    subst (λ (s : List g.row.T-Answer.Denot). Answered (g.T.Task.gives c.args.task.now) c.args.items.now s)
    (sym c.from_vec.ensures)
    (gathered-answers (g.T.Task.gives c.args.task.now) c.args.items.now c.fill.new.slots answers c.fill.ensures held)
