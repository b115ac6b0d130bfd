use Rattle.std.proofs.Common.{◌<◌, ◌+◌, inl, inr, length, sym, subst, arith}
use Rattle.js_automaton.specs.Pieces.{AreRanges}
use Rattle.js_automaton.proofs.PieceSetLemmas.{HaveFirst, has_next, next-above, skipped, pushed, other_test}
use Rattle.js_automaton.proofs.class_set.ranges_of.Goals as goal
use Rattle.js_automaton.proofs.class_set.ranges_of.Goals.{then-number-here+then-is_character+in_ok-push, else-number-here, else-number-here-via-then-number-here+else-is_character, else-number-here-via-else-number-here}
use Rattle.std.proofs.lemmas.Bool.{eq-eqb}

pub bounds-starts-i-then-is_character-2 : goal.bounds-starts-i-then-is_character-2
bounds-starts-i-then-is_character-2 c =
    let n = c.requires.1 in
    has_next c.requires.0 c.args.starts.now c.loop-i.i n.rising n.places
    (let e = n.numbers.0 in omega (arith, e, c.loop-i-test.true)) (sym c.if-is_character.ensures)

pub overflow_sub-starts : goal.overflow_sub-starts
overflow_sub-starts c =
    let n = c.requires.1 in
    next-above c.requires.0 c.args.starts.now c.loop-i.i n.rising n.places
    (let e = n.numbers.0 in omega (arith, e, c.loop-i-test.true)) (sym c.if-is_character.ensures)

pub loop-i-preserved : goal.loop-i-preserved
loop-i-preserved c =
    let n = c.requires.1 in
    let within : c.loop-i.i < length c.args.starts.now = let e = n.numbers.0 in omega (arith, e, c.loop-i-test.true) in
    elim c.if-number-here.branch [
      | then-number-here+then-is_character+in_ok-push w ↦
          subst (λ v. AreRanges v.items
          × HaveFirst c.args.starts.now c.args.numbers.now c.args.here v.items (c.loop-i.i + 1))
          (sym w.ranges-is)
          (pushed c.requires.0 c.args.starts.now c.args.numbers.now n c.args.here c.loop-i.ranges.items c.loop-i.i
          c.loop-i-test.true c.loop-i.invariant.0 c.loop-i.invariant.1
          (has_next c.requires.0 c.args.starts.now c.loop-i.i n.rising n.places within (sym w.if-is_character.ensures))
          (sym w.if-is_character.ensures)
          (eq-eqb _ _ w.if-number-here.true) w.push.new.self.items w.in_ok-push.ensures.items)
      | else-number-here w ↦ elim w.else-number-here.branch [
        | else-number-here-via-then-number-here+else-is_character v ↦
            subst (λ v. AreRanges v.items
            × HaveFirst c.args.starts.now c.args.numbers.now c.args.here v.items (c.loop-i.i + 1))
            (sym w.ranges-is) (
              c.loop-i.invariant.0,
              skipped c.requires.0 c.args.starts.now c.args.numbers.now n c.args.here c.loop-i.ranges.items c.loop-i.i
                  c.loop-i-test.true c.loop-i.invariant.0 c.loop-i.invariant.1 (inr (sym v.if-is_character.ensures)),
            )
        | else-number-here-via-else-number-here v ↦
            subst (λ v. AreRanges v.items
            × HaveFirst c.args.starts.now c.args.numbers.now c.args.here v.items (c.loop-i.i + 1))
            (sym w.ranges-is) (
              c.loop-i.invariant.0,
              skipped c.requires.0 c.args.starts.now c.args.numbers.now n c.args.here c.loop-i.ranges.items c.loop-i.i
                  c.loop-i-test.true c.loop-i.invariant.0 c.loop-i.invariant.1
                  (inl (other_test _ _ v.if-number-here.false)),
            )
      ]
    ]
