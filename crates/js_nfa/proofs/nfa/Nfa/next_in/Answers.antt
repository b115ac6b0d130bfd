use Rattle.std.proofs.Common.{false, sym, ◌∙◌, arith}
use Rattle.js_nfa.specs.View.{tree_of}
use Rattle.js_nfa.proofs.ColumnsSteps.{length-column, column-next, column-done}
use Rattle.js_nfa.proofs.StateSteps.{next-done, next-more}
use Rattle.js_nfa.proofs.nfa.Nfa.next_in.Goals as goal

pub advance-requires : goal.advance-requires
advance-requires c = record {
  place = c.requires.place;
  empty = c.in_ok-reads.ensures.flags;
  room = omega (arith, c.requires.long, c.args.self.now.counted, c.in_ok-reads.ensures.room);
  long = c.requires.long
      ∙ sym (length-column (tree_of c.args.self.now) c.args.columns.now c.requires.columns c.args.place
      c.requires.place);
}

pub returns-then-advance : goal.returns-then-advance
returns-then-advance c = λ flags e.
    let t = tree_of c.args.self.now in
    let after = c.advance.new.reads.flags in
    next-done t false c.args.character flags after c.advance.result
    (column-next t c.args.columns.now c.requires.columns c.args.place c.requires.place c.args.character
    c.requires.character flags c.args.follows.now.flags after e c.advance.ensures.flags)
    (column-done t c.args.columns.now c.requires.columns c.args.place c.requires.place c.args.character
    c.requires.character flags c.args.follows.now.flags after e c.advance.ensures.flags c.advance.result
    c.advance.ensures.done)
    c.if-advance.true

pub returns-else-advance : goal.returns-else-advance
returns-else-advance c = λ flags e.
    let t = tree_of c.args.self.now in
    let after = c.advance.new.reads.flags in
    next-more t false c.args.character flags after c.advance.result
    (column-next t c.args.columns.now c.requires.columns c.args.place c.requires.place c.args.character
    c.requires.character flags c.args.follows.now.flags after e c.advance.ensures.flags)
    (column-done t c.args.columns.now c.requires.columns c.args.place c.requires.place c.args.character
    c.requires.character flags c.args.follows.now.flags after e c.advance.ensures.flags c.advance.result
    c.advance.ensures.done)
    c.if-advance.false
