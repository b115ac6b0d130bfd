use Rattle.std.proofs.Common.{◌≡◌, ◌<◌, [], map, length, ap, ◌∙◌, arith}
use Rattle.std.proofs.lemmas.List.{length-map}
use Rattle.std.proofs.lemmas.Result.{IfOk-weaker}
use Rattle.std.proofs.lemmas.Simd.{map-map}
use Rattle.word_states.specs.Mention.{mention_all}
use Rattle.cells.specs.Cells.{same_vector, place}
use Rattle.js_automaton.specs.AutomatonView.{atoms_of, rows_of}
use Rattle.js_said.specs.Saying.{told_of}
use Rattle.js_cells.proofs.grouping.group.Goals as goal

pub number-requires : goal.number-requires
number-requires c =
    let a = c.args.automaton.now in
    let told = ap length c.in_ok-told.ensures in
    let long = length-map (rows_of a) (told_of c.args.core.now.positions (atoms_of a) c.args.said.now) in
    let few = a.found.1.1 in omega (arith, told, long, few)

pub returns-clause-vectors : goal.returns-clause-vectors
returns-clause-vectors c =
    let a = c.args.automaton.now in
    let f = told_of c.args.core.now.positions (atoms_of a) c.args.said.now in
    IfOk-weaker c.number.result
    (λ g. g.vectors.keys ≡ mention_all same_vector [] c.in_ok-told.told.items)
    (λ g. g.vectors.keys ≡ mention_all same_vector [] (map f (rows_of a)))
    (λ g h. h ∙ ap (mention_all same_vector []) c.in_ok-told.ensures)
    c.number.ensures.vectors

pub returns-clause-cells : goal.returns-clause-cells
returns-clause-cells c =
    let a = c.args.automaton.now in
    let f = told_of c.args.core.now.positions (atoms_of a) c.args.said.now in
    IfOk-weaker c.number.result
    (λ g. g.cells.items ≡ map (λ v. place v g.vectors.keys) c.in_ok-told.told.items)
    (λ g. g.cells.items ≡ map (λ w. place (f w) g.vectors.keys) (rows_of a))
    (λ g h. h ∙ ap (map (λ v. place v g.vectors.keys)) c.in_ok-told.ensures
    ∙ map-map (λ v. place v g.vectors.keys) f (rows_of a))
    c.number.ensures.cells
