use Rattle.std.proofs.Common.{◌≡◌, ◌<◌, List, Bool, length, get_or, ◌∙◌, subst, arith}
use Rattle.std.proofs.lemmas.Grind.{get_or_default_zero}
use Rattle.js_automaton.specs.AutomatonView.{atoms_of, rows_of}
use Rattle.js_row_words.specs.Labels.{LeadsToMark}
use Rattle.js_row_words.specs.Edges.{HaveSources}
use Rattle.js_row_words.specs.Reaching.{AllLead}
use Rattle.js_row_words.proofs.ReachingLaws.{found_next, found_within, found_all}
use Rattle.js_row_words.proofs.reached.Reached.find.Goals as goal

pub add_sources-requires-clause-row : goal.add_sources-requires-clause-row
add_sources-requires-clause-row c =
    let list = c.loop-done.reached.list.items in
    let l : c.loop-done.done < length list =
    (let t = c.loop-done-test.true in let e = c.len.ensures in omega (arith, t, e)) in
    let q = c.index-row.ensures ∙ get_or_default_zero list c.loop-done.done c.index-row.result.now l in
    let (w, _) = found_within (atoms_of c.args.automaton.now) (rows_of c.args.automaton.now) c.args.marks.now
    c.loop-done.reached.seen.items list c.loop-done.done c.loop-done.invariant l in
    omega (arith, q, w)

pub loop-done-preserved : goal.loop-done-preserved
loop-done-preserved c =
    let atoms = atoms_of c.args.automaton.now in
    let L = rows_of c.args.automaton.now in
    let list = c.loop-done.reached.list.items in
    let now = c.add_sources.new.self in
    let l : c.loop-done.done < length list =
    (let t = c.loop-done-test.true in let e = c.len.ensures in omega (arith, t, e)) in
    let q : c.index-row.result.now ≡ get_or list c.loop-done.done 0 =
    c.index-row.ensures ∙ get_or_default_zero list c.loop-done.done c.index-row.result.now l in
    found_next atoms L c.args.marks.now c.loop-done.reached.seen.items list c.loop-done.done c.loop-done.invariant
    now.seen.items now.list.items l c.in_ok-add_sources.ensures.size c.in_ok-add_sources.ensures.listed
    c.in_ok-add_sources.ensures.longer c.in_ok-add_sources.ensures.part
    (subst (λ z. HaveSources atoms L now.seen.items z) q c.in_ok-add_sources.ensures.all)
    (subst (λ z. (marks : List Bool) → LeadsToMark atoms L marks z
    → AllLead atoms L marks c.loop-done.reached.seen.items → AllLead atoms L marks now.seen.items) q
    c.in_ok-add_sources.ensures.leads)

pub returns : goal.returns
returns c = found_all (atoms_of c.args.automaton.now) (rows_of c.args.automaton.now) c.args.marks.now
    c.loop-done.reached.seen.items c.loop-done.reached.list.items c.loop-done.done c.loop-done.invariant
    c.args.automaton.now.found.1.0
    (let t = c.loop-done-test.false in let e = c.len.ensures in omega (arith, t, e))
