use Rattle.std.proofs.Common.{◌<◌, ◌+◌, ◌∙◌, [], get_or, sym, subst, arith}
use Rattle.std.proofs.lemmas.Option.{get_or_from_slice_get}
use Rattle.word_states.specs.Classes.{class_firsts, class_count}
use Rattle.js_automaton.specs.TuplesView.{atoms_of}
use Rattle.js_automaton.specs.declared.state.TupleState.{TupleState}
use Rattle.js_automaton.specs.Building.{IsFound}
use Rattle.js_automaton.specs.Follows.{AreFollows}
use Rattle.js_automaton.proofs.FollowLemmas.{key-stays}
use Rattle.js_automaton.proofs.RowsLemmas.{found-within, found-state, found-class, found-over, first-member}
use Rattle.js_automaton.proofs.rows.go_through.Goals as goal

pub index-requires : goal.index-requires
index-requires c =
    found-within (atoms_of c.args.tuples.now) c.args.states.now.keys c.args.targets.now.items c.args.row 0
    c.requires.found

pub follows-requires : goal.follows-requires
follows-requires c = (
  get_or c.requires.found.rows c.args.row [],
  found-state (atoms_of c.args.tuples.now) c.args.states.now.keys c.args.targets.now.items c.args.row 0
      c.requires.found c.index.result.now c.index.ensures,
)

pub loop-class-init : goal.loop-class-init
loop-class-init c = (
  c.requires.found,
  c.requires.few,
  (λ s e. subst (λ (z : TupleState). AreFollows c.args.tuples.now.patterns.items z.patterns.items
      c.in_ok-follows.follows.items)
      (sym (get_or_from_slice_get c.args.states.now.keys c.args.row c.index.result.now s c.index.ensures) ∙ sym e)
      c.in_ok-follows.ensures),
)

pub index-requires-in-loop-class : goal.index-requires-in-loop-class
index-requires-in-loop-class c =
    found-within (atoms_of c.args.tuples.now) c.loop-class.states.keys c.loop-class.targets.items c.args.row
    c.loop-class.class c.loop-class.invariant.0

pub step_by-requires-clause-made : goal.step_by-requires-clause-made
step_by-requires-clause-made c = (
  get_or c.loop-class.invariant.0.rows c.args.row [],
  found-state (atoms_of c.args.tuples.now) c.loop-class.states.keys c.loop-class.targets.items c.args.row
      c.loop-class.class c.loop-class.invariant.0 c.index-in-loop-class.result.now c.index-in-loop-class.ensures,
)

pub step_by-requires-clause-follows : goal.step_by-requires-clause-follows
step_by-requires-clause-follows c =
    let s = c.index-in-loop-class.result.now in
    subst (AreFollows c.args.tuples.now.patterns.items s.patterns.items) (sym c.deref.ensures.value)
    (c.loop-class.invariant.2 s
    (sym (get_or_from_slice_get c.loop-class.states.keys c.args.row s s c.index-in-loop-class.ensures)))

pub returns-in-Err-clause-limit : goal.returns-in-Err-clause-limit
returns-in-Err-clause-limit c = λ e.
    let atoms = atoms_of c.args.tuples.now in
    let found = c.loop-class.invariant.0 in
    let within : c.loop-class.class < class_count atoms =
    omega (arith, c.loop-class-test.true, c.classes-class-end.ensures) in
    let row = found-state atoms c.loop-class.states.keys c.loop-class.targets.items c.args.row c.loop-class.class found
    c.index-in-loop-class.result.now c.index-in-loop-class.ensures in
    let next = c.in_ok-next.ensures (get_or found.rows c.args.row [])
    (get_or (class_firsts atoms) c.loop-class.class 0) row
    (first-member atoms c.loop-class.class within) in
    found-over atoms c.loop-class.states.keys c.loop-class.targets.items c.args.row c.loop-class.class found
    c.in_ok-next.next 65537 within next (c.in-Err.ensures.limit e)

pub loop-class-preserved : goal.loop-class-preserved
loop-class-preserved c =
    let atoms = atoms_of c.args.tuples.now in
    let found = c.loop-class.invariant.0 in
    let within : c.loop-class.class < class_count atoms =
    omega (arith, c.loop-class-test.true, c.classes-class-end.ensures) in
    let row = found-state atoms c.loop-class.states.keys c.loop-class.targets.items c.args.row c.loop-class.class found
    c.index-in-loop-class.result.now c.index-in-loop-class.ensures in
    let next = c.in_ok-next.ensures (get_or found.rows c.args.row [])
    (get_or (class_firsts atoms) c.loop-class.class 0) row
    (first-member atoms c.loop-class.class within) in (
      subst (λ ns. IsFound atoms c.insert.new.states.keys ns c.args.row (c.loop-class.class + 1))
          (sym c.in_ok-push-in-Ok.ensures.items)
          (found-class atoms c.loop-class.states.keys c.loop-class.targets.items c.args.row c.loop-class.class found
          c.insert.new.states.keys c.in_ok-next.next c.in-Ok.number within next c.in-Ok.ensures.keys
          c.in-Ok.ensures.number),
      c.in-Ok.ensures.few,
      (λ s e. c.loop-class.invariant.2 s
          (e ∙ key-stays c.loop-class.states.keys c.insert.new.states.keys c.in_ok-next.next c.args.row s
          (found-within atoms c.loop-class.states.keys c.loop-class.targets.items c.args.row c.loop-class.class found)
          c.in-Ok.ensures.keys)),
    )
