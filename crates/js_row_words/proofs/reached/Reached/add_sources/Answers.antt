use Rattle.std.proofs.Common.{◌≡◌, ◌-◌, ◌/◌, ◌<◌, suc, true, length, get_or, set, sym, ◌∙◌, ap, subst, arith}
use Rattle.std.proofs.lemmas.Grind.{get_or_default_zero}
use Rattle.js_automaton.specs.AutomatonView.{atoms_of, rows_of}
use Rattle.word_states.specs.Classes.{class_count}
use Rattle.js_row_words.specs.Reaching.{AreListed}
use Rattle.js_row_words.proofs.ReachingLaws.{AreAdded, added_first, added_next, added_falls}
use Rattle.js_row_words.proofs.reached.Reached.add_sources.Goals as goal

pub loop-edge-init : goal.loop-edge-init
loop-edge-init c =
    let atoms = atoms_of c.args.automaton.now in
    let L = rows_of c.args.automaton.now in
    let last = c.args.sources.now.last.items in
    let before = c.args.sources.now.before.items in
    let l : c.args.row < length last =
    (let s = c.requires.sources.0 in let r = c.requires.row in omega (arith, s, r)) in
    subst (λ z. AreAdded atoms L c.args.row c.args.self.now.seen.items c.args.self.now.list.items
    c.args.self.now.seen.items c.args.self.now.list.items z)
    (sym (c.index-edge.ensures ∙ get_or_default_zero last c.args.row c.index-edge.result.now l))
    (added_first atoms L c.args.automaton.now.found.1.0 last before c.requires.sources c.args.row c.requires.row
    c.args.self.now.seen.items c.args.self.now.list.items c.requires.size c.requires.listed)

pub loop-edge-smaller : goal.loop-edge-smaller
loop-edge-smaller c =
    let atoms = atoms_of c.args.automaton.now in
    let L = rows_of c.args.automaton.now in
    let before = c.args.sources.now.before.items in
    let e = c.loop-edge.edge - 1 in
    let n : c.loop-edge.edge ≡ suc e = (let t = c.loop-edge-test.true in omega (arith, t)) in
    let l : e < length before =
    (let s = c.requires.sources.1 in let w = c.loop-edge.invariant.within in omega (arith, s, w, n)) in
    let f = added_falls atoms L c.args.automaton.now.found.1.0 c.args.sources.now.last.items before c.requires.sources
    c.args.row c.args.self.now.seen.items c.args.self.now.list.items c.loop-edge.self.seen.items
    c.loop-edge.self.list.items e
    (subst (λ z. AreAdded atoms L c.args.row c.args.self.now.seen.items c.args.self.now.list.items
    c.loop-edge.self.seen.items c.loop-edge.self.list.items z) n c.loop-edge.invariant) in
    let q = c.index-edge-in-loop-edge.ensures
    ∙ get_or_default_zero before e c.index-edge-in-loop-edge.result.now l in
    omega (arith, f, q, n)

pub loop-edge-preserved : goal.loop-edge-preserved
loop-edge-preserved c =
    let atoms = atoms_of c.args.automaton.now in
    let L = rows_of c.args.automaton.now in
    let before = c.args.sources.now.before.items in
    let e = c.loop-edge.edge - 1 in
    let n : c.loop-edge.edge ≡ suc e = (let t = c.loop-edge-test.true in omega (arith, t)) in
    let l : e < length before =
    (let s = c.requires.sources.1 in let w = c.loop-edge.invariant.within in omega (arith, s, w, n)) in
    let seen_is : c.add.new.self.seen.items ≡ set c.loop-edge.self.seen.items (e / class_count atoms) true =
    c.in_ok-add.ensures.seen
    ∙ ap (λ z. set c.loop-edge.self.seen.items (e / z) true) c.classes-classes.ensures in
    subst (λ z. AreAdded atoms L c.args.row c.args.self.now.seen.items c.args.self.now.list.items
    c.add.new.self.seen.items c.add.new.self.list.items z)
    (sym (c.index-edge-in-loop-edge.ensures ∙ get_or_default_zero before e c.index-edge-in-loop-edge.result.now l))
    (subst (λ z. AreAdded atoms L c.args.row c.args.self.now.seen.items c.args.self.now.list.items
    z c.add.new.self.list.items (get_or before e 0)) (sym seen_is)
    (added_next atoms L c.args.automaton.now.found.1.0 c.args.sources.now.last.items before c.requires.sources
    c.args.row c.args.self.now.seen.items c.args.self.now.list.items c.loop-edge.self.seen.items
    c.loop-edge.self.list.items e
    (subst (λ z. AreAdded atoms L c.args.row c.args.self.now.seen.items c.args.self.now.list.items
    c.loop-edge.self.seen.items c.loop-edge.self.list.items z) n c.loop-edge.invariant)
    c.add.new.self.list.items
    (subst (λ z. AreListed z c.add.new.self.list.items) seen_is c.in_ok-add.ensures.listed)
    c.in_ok-add.ensures.longer))
