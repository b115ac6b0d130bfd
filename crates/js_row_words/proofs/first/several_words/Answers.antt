use Rattle.std.specs.List.{range_with_len}
use Rattle.std.proofs.Common.{◌≡◌, ◌-◌, ◌++◌, map, min, get_or, length, ap, ap₂, ◌∙◌, subst, arith}
use Rattle.std.proofs.lemmas.List.{length_push}
use Rattle.js_automaton.specs.AutomatonView.{atoms_of, rows_of}
use Rattle.js_row_words.specs.Counts.{word_by, AreNumbers, words_of_length}
use Rattle.js_row_words.proofs.Listing.{listing_begins, listing_more, listing_ends, listing_left}
use Rattle.js_row_words.proofs.first.several_words.Goals as goal

pub loop-alloc-init : goal.loop-alloc-init
loop-alloc-init c =
    listing_begins (atoms_of c.args.automaton.now) (rows_of c.args.automaton.now) c.args.automaton.now.found.1.0
    c.args.marks.now c.args.count c.new-words.result.items c.new-lengths.result.items
    c.new-words.ensures.items c.new-lengths.ensures.items

pub loop-alloc-smaller : goal.loop-alloc-smaller
loop-alloc-smaller c =
    let few = c.loop-alloc-test.true in
    let left = listing_left (atoms_of c.args.automaton.now) (rows_of c.args.automaton.now)
    c.args.automaton.now.found.1.0 c.args.marks.now c.args.count c.loop-alloc.words.items
    c.loop-alloc.lengths.items c.loop-alloc.invariant
    (let s = c.len.ensures in omega (arith, few, s)) c.requires.count in
    let long = ap length c.in_ok-push.ensures.items
    ∙ length_push c.loop-alloc.lengths.items c.in_ok-numbers.numbers in
    omega (arith, left, long)

pub loop-alloc-preserved : goal.loop-alloc-preserved
loop-alloc-preserved c =
    let atoms = atoms_of c.args.automaton.now in
    let L = rows_of c.args.automaton.now in
    let few = c.loop-alloc-test.true in
    let s = c.len.ensures in
    let h = c.len-in-loop-alloc.ensures in
    let t : c.len-in-loop-alloc.result ≡ length c.loop-alloc.words.items = omega (arith, h) in
    listing_more atoms L c.args.automaton.now.found.1.0
    c.args.marks.now c.args.count c.loop-alloc.words.items c.add_words.new.words.items c.loop-alloc.lengths.items
    c.in_ok-numbers.numbers c.min-room.result c.loop-alloc.invariant
    (subst (λ z. AreNumbers (length L) c.args.count (words_of_length atoms L c.args.marks.now (length z))
    c.in_ok-numbers.numbers) c.deref-in-loop-alloc.ensures.value c.in_ok-numbers.ensures)
    (omega (arith, few, s)) c.requires.count
    (c.min-room.ensures ∙ ap₂ (λ x z. min (c.args.count - x) (get_or z 0 0)) t c.as_slice.ensures)
    (subst (λ z. c.add_words.new.words.items ≡ c.loop-alloc.words.items
    ++ map (word_by atoms L z) (range_with_len 0 c.min-room.result))
    c.deref-in-loop-alloc-3.ensures.value c.in_ok-add_words.ensures)
    c.push.new.self.items c.in_ok-push.ensures.items

pub returns : goal.returns
returns c =
    let few = c.loop-alloc-test.false in
    let s = c.len.ensures in
    listing_ends (atoms_of c.args.automaton.now) (rows_of c.args.automaton.now) c.args.automaton.now.found.1.0
    c.args.marks.now c.args.count c.loop-alloc.words.items c.loop-alloc.lengths.items
    c.loop-alloc.invariant (omega (arith, few, s))
