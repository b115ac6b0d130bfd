use Rattle.std.proofs.Common.{ℕ, ◌<◌, ◌∙◌, length, map, refl, sym, arith}
use Rattle.std.proofs.lemmas.List.{length-map}
use Rattle.js_nfa.specs.View.{tree_of}
use Rattle.js_automaton.specs.declared.tuples.Tuples.{Tuples}
use Rattle.js_automaton.specs.Parts.{part_view}
use Rattle.js_automaton.specs.TuplesView.{atoms_of}
use Rattle.js_automaton.proofs.PartLemmas.{placed-at}
use Rattle.js_automaton.proofs.TupleLemmas.{states-length, truth-match, truth-words, truth-length}
use Rattle.js_automaton.proofs.tuples.Tuples.truth.Goals as goal

inside : (t : Tuples) (k : ℕ) → k < length (atoms_of t) → k < length t.parts.items
inside t k l = omega (arith, l, length-map t.parts.items (part_view (map tree_of t.patterns.items)))

pub index-requires-in-Match : goal.index-requires-in-Match
index-requires-in-Match c =
    let t = c.args.self.now in
    omega (
      arith,
      placed-at 0 t.parts.items (length t.patterns.items) c.args.atom c.in-Match.place c.index.result.now t.places
          (inside t c.args.atom c.requires.atom) (sym c.index.ensures ∙ c.in-Match.is),
      t.patterns.ok,
    )

pub index-requires-in-Match-2 : goal.index-requires-in-Match-2
index-requires-in-Match-2 c =
    let t = c.args.self.now in
    omega (
      arith,
      placed-at 0 t.parts.items (length t.patterns.items) c.args.atom c.in-Match.place c.index.result.now t.places
          (inside t c.args.atom c.requires.atom) (sym c.index.ensures ∙ c.in-Match.is),
      states-length t.patterns.items t.parts.items t.places c.args.state.now c.requires.made.0 c.requires.made.1,
      c.args.state.now.patterns.ok,
    )

pub returns-in-Match : goal.returns-in-Match
returns-in-Match c = λ w h.
    let t = c.args.self.now in
    let l = inside t c.args.atom c.requires.atom in
    truth-match t.patterns.items t.parts.items t.places c.args.state.now w c.args.atom c.in-Match.place
    c.index.result.now c.index-in-Match.result.now c.index-in-Match-2.result.now c.is_accepted.result h l
    c.index.ensures c.in-Match.is
    (placed-at 0 t.parts.items (length t.patterns.items) c.args.atom c.in-Match.place c.index.result.now t.places l
    (sym c.index.ensures ∙ c.in-Match.is))
    c.index-in-Match.ensures c.index-in-Match-2.ensures c.is_accepted.ensures

pub returns-in-Words : goal.returns-in-Words
returns-in-Words c = λ w h.
    let t = c.args.self.now in
    truth-words t.patterns.items t.parts.items t.places c.args.state.now w c.args.atom c.in-Words.field-0
    c.index.result.now t.ends.keys c.leads_to.result h (inside t c.args.atom c.requires.atom) c.index.ensures
    c.in-Words.is t.found c.leads_to.ensures

pub returns-in-Length : goal.returns-in-Length
returns-in-Length c = λ w h.
    let t = c.args.self.now in
    truth-length t.patterns.items t.parts.items t.places c.args.state.now w c.args.atom c.in-Length.least
    c.index.result.now _ h (inside t c.args.atom c.requires.atom) c.index.ensures c.in-Length.is refl
