use Rattle.std.proofs.Common.{◌<◌, ◌≤◌, [], length, map, get_or, sym, arith}
use Rattle.std.proofs.lemmas.List.{length-map}
use Rattle.js_nfa.specs.View.{tree_of}
use Rattle.js_automaton.specs.TuplesView.{atoms_of}
use Rattle.js_automaton.proofs.ToldLemmas.{row-state, told-next, told-end, told-room}
use Rattle.js_automaton.proofs.rows.tell_rows.Goals as goal

pub tell-requires-clause-made : goal.tell-requires-clause-made
tell-requires-clause-made c =
    let (rows, s) = c.requires.made in
    let keys = c.args.states.now.keys in
    let below : c.loop-row.row < length keys = omega (arith, c.loop-row-test.true, c.len-row-end.ensures.len) in (
      get_or rows c.loop-row.row [],
      row-state (atoms_of c.args.tuples.now) (map tree_of c.args.tuples.now.patterns.items) keys c.loop-row.row
          c.index.result.now rows s below c.index.ensures,
    )

pub tell-requires-clause-room : goal.tell-requires-clause-room
tell-requires-clause-room c =
    let (rows, s) = c.requires.made in
    let ns = c.args.tuples.now.patterns.items in
    let keys = c.args.states.now.keys in
    let below : c.loop-row.row < length keys = omega (arith, c.loop-row-test.true, c.len-row-end.ensures.len) in
    told-room (atoms_of c.args.tuples.now) (map tree_of ns) keys c.loop-row.told.flags c.loop-row.row (length ns)
    c.loop-row.told.room rows s below (sym (length-map ns tree_of)) c.loop-row.invariant.1 c.loop-row.invariant.0

pub loop-row-preserved : goal.loop-row-preserved
loop-row-preserved c =
    let atoms = atoms_of c.args.tuples.now in
    let ts = map tree_of c.args.tuples.now.patterns.items in
    let keys = c.args.states.now.keys in
    let row = c.loop-row.row in
    let below : row < length keys = omega (arith, c.loop-row-test.true, c.len-row-end.ensures.len) in (
      told-next atoms ts keys c.loop-row.told.flags c.tell.new.told.flags row below c.loop-row.invariant.0
          (λ rows s. c.tell.ensures.told (get_or rows row [])
          (row-state atoms ts keys row c.index.result.now rows s below c.index.ensures)),
      omega (arith, c.loop-row.invariant.1, c.tell.ensures.room),
    )

pub returns-clause-told : goal.returns-clause-told
returns-clause-told c =
    let keys = c.args.states.now.keys in
    let past : length keys ≤ c.loop-row.row = omega (arith, c.loop-row-test.false, c.len-row-end.ensures.len) in
    told-end (atoms_of c.args.tuples.now) (map tree_of c.args.tuples.now.patterns.items) keys c.loop-row.told.flags
    c.loop-row.row past c.loop-row.invariant.0
