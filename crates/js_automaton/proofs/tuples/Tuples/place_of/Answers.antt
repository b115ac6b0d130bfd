use Rattle.std.proofs.Common.{ap, map, sym, length, ◌<◌, ◌∙◌, arith}
use Rattle.std.proofs.lemmas.List.{length-map}
use Rattle.js_nfa.specs.View.{tree_of}
use Rattle.js_automaton.specs.Parts.{part_view}
use Rattle.js_automaton.proofs.PartLemmas.{placed-at}
use Rattle.js_automaton.proofs.TupleLemmas.{atom-at}
use Rattle.js_automaton.proofs.tuples.Tuples.place_of.Goals as goal

pub returns-in-Match : goal.returns-in-Match
returns-in-Match c =
    let t = c.args.self.now in
    let view = part_view (map tree_of t.patterns.items) in
    let inside : c.args.atom < length t.parts.items = omega (arith, c.requires, length-map t.parts.items view) in (
      placed-at 0 t.parts.items (length t.patterns.items) c.args.atom c.in-Match.place c.index.result.now t.places inside
          (sym c.index.ensures ∙ c.in-Match.is),
      atom-at t.patterns.items t.parts.items t.places c.args.atom c.index.result.now inside c.index.ensures
          ∙ ap view c.in-Match.is,
    )
