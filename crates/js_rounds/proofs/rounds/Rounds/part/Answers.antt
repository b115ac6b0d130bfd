-- The laws of the expander give what the part of an alternative needs.
use Rattle.std.proofs.Common.{◌≡◌, true, map, ap, sym, ◌∙◌, subst}
use Rattle.documents.specs.Tests.{every, same_word}
use Rattle.alternatives.specs.Alternative.{Members}
use Rattle.alternatives.specs.Slots.{word_at, has_room, are_different}
use Rattle.search.specs.Witness.{named, by_shape}
use Rattle.list_laws.proofs.Lists.{every_at}
use Rattle.search_laws.proofs.Names.{get_in}
use Rattle.js_explore.specs.ExploredView.{explored_view}
use Rattle.js_explore.specs.NumberedView.{numbered_view}
use Rattle.js_rounds.specs.Spread.{spread}
use Rattle.js_rounds.specs.Slots.{place_at}
use Rattle.js_rounds.proofs.Chosen as chosen
use Rattle.js_rounds.proofs.Chosen.{if_ok}
use Rattle.js_rounds.proofs.rounds.Rounds.part.Goals as goal

pub part_of-requires-clause-taken : goal.part_of-requires-clause-taken
part_of-requires-clause-taken g c =
    every_at (g.E.Expander.takes c.args.expander.now) c.goal.result.now (explored_view c.args.explored.now).found.goals
    c.requires.taken (get_in (explored_view c.args.explored.now).found.goals c.args.goal c.goal.result.now
    c.goal.ensures)

pub part_of-requires-clause-branch : goal.part_of-requires-clause-branch
part_of-requires-clause-branch g c =
    let x = c.args.expander.now in
    let e = explored_view c.args.explored.now in
    let E = g.E.Expander in
    let taken = every_at (E.takes x) c.goal.result.now e.found.goals c.requires.taken
    (get_in e.found.goals c.args.goal c.goal.result.now c.goal.ensures) in
    chosen.branch (E.expansion x) (E.takes x) (E.cells x) (g.met.E.Expander.words_named x)
    (g.met.E.Expander.slots_fit x)
    (g.met.E.Expander.slots_differ x) (g.met.E.Expander.words_differ x) e c.requires.explores c.args.self.now
    c.requires.rounds c.args.goal c.requires.satisfied c.goal.result.now c.goal.ensures taken
    (numbered_view c.in-Some.choice.alternative.now) (sym c.in-Some.ensures.chosen) c.in_ok-runs.runs.items
    c.in_ok-runs.ensures

pub part_of-requires-clause-text : goal.part_of-requires-clause-text
part_of-requires-clause-text g c =
    let x = c.args.expander.now in
    let e = explored_view c.args.explored.now in
    let E = g.E.Expander in
    let taken = every_at (E.takes x) c.goal.result.now e.found.goals c.requires.taken
    (get_in e.found.goals c.args.goal c.goal.result.now c.goal.ensures) in
    chosen.text (E.expansion x) (E.takes x) (E.cells x) (g.met.E.Expander.words_named x) (g.met.E.Expander.slots_fit x)
    (g.met.E.Expander.slots_differ x) (g.met.E.Expander.words_differ x) e c.requires.explores c.args.self.now
    c.requires.rounds c.args.goal c.requires.satisfied c.goal.result.now c.goal.ensures taken
    (numbered_view c.in-Some.choice.alternative.now) (sym c.in-Some.ensures.chosen) c.in_ok-runs.runs.items
    c.in_ok-runs.ensures

pub part_of-requires-clause-room : goal.part_of-requires-clause-room
part_of-requires-clause-room g c =
    let x = c.args.expander.now in
    let e = explored_view c.args.explored.now in
    let E = g.E.Expander in
    let a = numbered_view c.in-Some.choice.alternative.now in
    let taken = every_at (E.takes x) c.goal.result.now e.found.goals c.requires.taken
    (get_in e.found.goals c.args.goal c.goal.result.now c.goal.ensures) in
    subst (λ rs. every (λ p. has_room (E.cells x c.goal.result.now a.kind a.branch) p.slot 1) (spread rs) ≡ true)
    (sym c.deref.ensures.value) (chosen.room (E.expansion x) (E.takes x) (E.cells x) (g.met.E.Expander.words_named
    x) (g.met.E.Expander.slots_fit x)
    (g.met.E.Expander.slots_differ x) (g.met.E.Expander.words_differ x) e c.requires.explores c.args.self.now
    c.requires.rounds c.args.goal c.requires.satisfied c.goal.result.now c.goal.ensures taken
    a (sym c.in-Some.ensures.chosen) c.in_ok-runs.runs.items
    c.in_ok-runs.ensures)

pub part_of-requires-clause-differ : goal.part_of-requires-clause-differ
part_of-requires-clause-differ g c =
    let x = c.args.expander.now in
    let e = explored_view c.args.explored.now in
    let E = g.E.Expander in
    let a = numbered_view c.in-Some.choice.alternative.now in
    let taken = every_at (E.takes x) c.goal.result.now e.found.goals c.requires.taken
    (get_in e.found.goals c.args.goal c.goal.result.now c.goal.ensures) in
    subst (λ rs. a.shape ≡ Members → are_different same_word (map (λ m. m.0)
    (map (named (word_at (E.cells x c.goal.result.now a.kind a.branch)) (place_at c.args.places.now)) (spread rs)))
    ≡ true)
    (sym c.deref.ensures.value) (chosen.differ (E.expansion x) (E.takes x) (E.cells x)
    (g.met.E.Expander.words_named x) (g.met.E.Expander.slots_fit x)
    (g.met.E.Expander.slots_differ x) (g.met.E.Expander.words_differ x) e c.requires.explores c.args.self.now
    c.requires.rounds c.args.goal c.requires.satisfied c.goal.result.now c.goal.ensures taken
    a (sym c.in-Some.ensures.chosen) c.in_ok-runs.runs.items
    c.in_ok-runs.ensures
    (place_at c.args.places.now))

pub returns : goal.returns
returns g c =
    let x = c.args.expander.now in
    let e = explored_view c.args.explored.now in
    let E = g.E.Expander in
    let a = numbered_view c.in-Some.choice.alternative.now in
    let taken = every_at (E.takes x) c.goal.result.now e.found.goals c.requires.taken
    (get_in e.found.goals c.args.goal c.goal.result.now c.goal.ensures) in
    if_ok c.part_of.result (λ p k. k
    ∙ ap (λ rs. by_shape (word_at (E.cells x c.goal.result.now a.kind a.branch)) (place_at c.args.places.now) a.shape
    (spread rs)) c.deref.ensures.value ∙ chosen.same (E.expansion x) (E.takes x) (E.cells x)
    (g.met.E.Expander.words_named x) (g.met.E.Expander.slots_fit x)
    (g.met.E.Expander.slots_differ x) (g.met.E.Expander.words_differ x) e c.requires.explores c.args.self.now
    c.requires.rounds c.args.goal c.requires.satisfied c.goal.result.now c.goal.ensures taken
    a (sym c.in-Some.ensures.chosen) c.in_ok-runs.runs.items
    c.in_ok-runs.ensures
    (place_at c.args.places.now)) c.part_of.ensures
