use Rattle.std.proofs.Common.{true, sym, refl, arith}
use Rattle.js_nfa.specs.View.{tree_of}
use Rattle.js_nfa.proofs.StateSteps as S
use Rattle.js_nfa.proofs.find.finds.Goals as goal

pub returns-then-ends-clause-decided : goal.returns-then-ends-clause-decided
returns-then-ends-clause-decided c =
    sym (S.found-first (tree_of c.args.nfa.now) c.args.word.now c.clear.new.self.flags c.ends.result
    c.clear.ensures.flags c.ends.ensures c.if-ends.true)

pub returns-then-ends-clause-relation : goal.returns-then-ends-clause-relation
returns-then-ends-clause-relation c =
    S.related (tree_of c.args.nfa.now) c.args.word.now true
    (sym (S.found-first (tree_of c.args.nfa.now) c.args.word.now c.clear.new.self.flags c.ends.result
    c.clear.ensures.flags c.ends.ensures c.if-ends.true))

pub loop-c-init : goal.loop-c-init
loop-c-init c = record {
  room = (omega (arith, c.requires.0, c.clear.ensures.room), c.requires.1);
  first = refl;
  state = S.read-none (tree_of c.args.nfa.now) c.clear.new.self.flags c.ends.result c.clear.ensures.flags
      c.ends.ensures c.if-ends.false;
}

pub returns-then-read_next-clause-decided : goal.returns-then-read_next-clause-decided
returns-then-read_next-clause-decided c =
    sym (S.read-done (tree_of c.args.nfa.now) c.args.word.now c.loop-c.c-index c.c-item.result c.loop-c-test.true
    c.c-item.is c.loop-c.first c.loop-c.scratch.read.flags c.read_next.new.scratch.read.flags c.read_next.result
    c.loop-c.invariant.first c.loop-c.invariant.state c.read_next.ensures.flags c.read_next.ensures.done
    c.if-read_next.true)

pub returns-then-read_next-clause-relation : goal.returns-then-read_next-clause-relation
returns-then-read_next-clause-relation c =
    S.related (tree_of c.args.nfa.now) c.args.word.now true
    (sym (S.read-done (tree_of c.args.nfa.now) c.args.word.now c.loop-c.c-index c.c-item.result c.loop-c-test.true
    c.c-item.is c.loop-c.first c.loop-c.scratch.read.flags c.read_next.new.scratch.read.flags c.read_next.result
    c.loop-c.invariant.first c.loop-c.invariant.state c.read_next.ensures.flags c.read_next.ensures.done
    c.if-read_next.true))

pub loop-c-preserved : goal.loop-c-preserved
loop-c-preserved c = record {
  room = c.read_next.ensures.room;
  first = S.empty-next (tree_of c.args.nfa.now) c.args.word.now c.loop-c.c-index c.c-item.result c.loop-c-test.true
      c.c-item.is;
  state = S.read-more (tree_of c.args.nfa.now) c.args.word.now c.loop-c.c-index c.c-item.result c.loop-c-test.true
      c.c-item.is c.loop-c.first c.loop-c.scratch.read.flags c.read_next.new.scratch.read.flags c.read_next.result
      c.loop-c.invariant.first c.loop-c.invariant.state c.read_next.ensures.flags c.read_next.ensures.done
      c.if-read_next.false;
}

pub returns-clause-decided : goal.returns-clause-decided
returns-clause-decided c =
    S.read-all (tree_of c.args.nfa.now) c.args.word.now c.loop-c.c-index c.loop-c.first c.loop-c.scratch.read.flags
    c.ends-2.result (omega (arith, c.loop-c-test.false)) c.loop-c.invariant.first c.loop-c.invariant.state
    c.ends-2.ensures

pub returns-clause-relation : goal.returns-clause-relation
returns-clause-relation c =
    S.related (tree_of c.args.nfa.now) c.args.word.now c.ends-2.result
    (S.read-all (tree_of c.args.nfa.now) c.args.word.now c.loop-c.c-index c.loop-c.first c.loop-c.scratch.read.flags
    c.ends-2.result (omega (arith, c.loop-c-test.false)) c.loop-c.invariant.first c.loop-c.invariant.state
    c.ends-2.ensures)
