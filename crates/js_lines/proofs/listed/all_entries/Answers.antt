-- A word is the number that is awaited, the word before one, or an entry.
use Rattle.std.proofs.Common.{ap, ◌∙◌}
use Rattle.js_lines.proofs.EntryLaws.{number-preserved, goal-preserved, bare-preserved}
use Rattle.js_lines.proofs.listed.all_entries.Goals as goal
use Rattle.js_lines.proofs.listed.all_entries.Goals.{then-awaits_number+in-Some+in_ok-push, else-awaits_number+then-is_word, else-awaits_number+else-is_word+in-Some-bare_entry+in_ok-push-2}

pub loop-word-preserved : goal.loop-word-preserved
loop-word-preserved c = elim c.if-awaits_number.branch [
  | then-awaits_number+in-Some+in_ok-push w ↦
      number-preserved c.args.words.now c.loop-word.word-index _ c.loop-word-test.true c.loop-word.list.items
      c.if-awaits_number.list.items c.loop-word.awaits_number c.if-awaits_number.awaits_number _ c.loop-word.invariant
      w.in-Some.goal w.if-awaits_number.true w.awaits_number-is w.in-Some.ensures
      (ap (λ v. v.items) w.list-is ∙ w.in_ok-push.ensures.items)
  | else-awaits_number+then-is_word w ↦
      goal-preserved c.args.words.now c.loop-word.word-index _ c.loop-word-test.true c.loop-word.list.items
      c.if-awaits_number.list.items c.loop-word.awaits_number c.if-awaits_number.awaits_number _ c.loop-word.invariant
      w.if-awaits_number.false w.awaits_number-is w.if-is_word.ensures (ap (λ v. v.items) w.list-is)
  | else-awaits_number+else-is_word+in-Some-bare_entry+in_ok-push-2 w ↦
      bare-preserved c.args.words.now c.loop-word.word-index _ c.loop-word-test.true c.loop-word.list.items
      c.if-awaits_number.list.items c.loop-word.awaits_number c.if-awaits_number.awaits_number _ c.loop-word.invariant
      w.in-Some-bare_entry.entry w.if-awaits_number.false w.awaits_number-is w.if-is_word.ensures
      w.in-Some-bare_entry.ensures (ap (λ v. v.items) w.list-is ∙ w.in_ok-push-2.ensures.items)
]
