use Rattle.std.proofs.Common.{◌<◌, ◌+◌, ◌++◌, ◌∷◌, [], ◌∙◌, length, refl, ap, arith}
use Rattle.js_pattern_positions.specs.Marks.{Marks}
use Rattle.js_nfa.proofs.FollowSetsSteps as S
use Rattle.js_nfa.proofs.followers.shown.Goals as goal
use Rattle.js_nfa.proofs.followers.shown.Goals.{then-not-is_within+in_ok-push, else-not-is_within}

pub loop-c-preserved : goal.loop-c-preserved
loop-c-preserved c =
    let having = c.args.having.now in
    let within : c.loop-c.c < length having = omega (arith, c.loop-c-test.true, c.requires.characters) in
    elim c.if-not-is_within.branch [
      | then-not-is_within+in_ok-push w ↦
          record {
            room = omega (arith, c.loop-c.invariant.room, w.join.ensures.room, ap Marks.room w.seen-is);
            seen = S.seen-joined having c.loop-c.seen.flags c.loop-c.shown.items c.loop-c.c c.index-having-c.result
                within c.index-having-c.is c.if-not-is_within.seen.flags c.if-not-is_within.shown.items
                (ap Marks.flags w.seen-is ∙ w.join.ensures.flags)
                (ap (λ v. v.items) w.shown-is ∙ w.in_ok-push.ensures.items
                ∙ ap (λ k. c.loop-c.shown.items ++ k ∷ []) w.from.ensures)
                c.loop-c.invariant.seen;
          }
      | else-not-is_within w ↦
          record {
            room = omega (arith, c.loop-c.invariant.room, ap Marks.room w.seen-is);
            seen = S.seen-same having c.loop-c.seen.flags c.loop-c.shown.items c.if-not-is_within.seen.flags
                c.if-not-is_within.shown.items (c.loop-c.c + 1) (ap Marks.flags w.seen-is)
                (ap (λ v. v.items) w.shown-is)
                (S.seen-within having c.loop-c.seen.flags c.loop-c.shown.items c.loop-c.c c.index-having-c.result
                within c.index-having-c.is c.loop-c.invariant.seen (w.if-not-is_within.ensures.0 refl));
          }
    ]
