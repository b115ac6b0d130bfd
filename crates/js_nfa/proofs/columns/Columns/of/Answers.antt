use Rattle.std.proofs.Common.{ℕ, false, true, ◌||◌, List, get_or, replicate, ◌∙◌, sym, ap, arith}
use Rattle.word_states.specs.Position.{count_of}
use Rattle.state_laws.specs.Flow.{flag_at, ends_here, reads_next}
use Rattle.js_pattern.specs.View.{view}
use Rattle.js_pattern_positions.specs.Both.{some_both}
use Rattle.js_nfa.proofs.FollowSetsSteps as S
use Rattle.js_nfa.proofs.columns.Columns.of.Goals as goal

pub returns : goal.returns
returns c =
    let t = view c.args.tree.now in
    let none = S.flag-none c.in_ok-none.none.flags c.in_ok-none.ensures.flags in
    let ends = flag_at c.in_ok-ends.ends.flags in
    record {
      next = λ i l.
          c.in_ok-having.ensures.sets i (omega (arith, l, c.in_ok-having.ensures.length))
          ∙ ap (λ n. reads_next t false (flag_at (replicate n true)) (get_or c.args.characters.now i 0) 0 true)
          c.requires.counted
          ∙ sym (ap (λ (cs : List ℕ). reads_next t false (flag_at (replicate (count_of t) true)) (get_or cs i 0) 0 true)
          c.in_ok-characters.ensures.items);
      done = λ read.
          S.done_by_ends t c.args.count c.requires.counted c.in_ok-ends.ends.flags c.tree_ends-done.result
          (c.tree_ends-done.ensures ∙ ap (λ r. ends_here t false false r 0 true) none) c.in_ok-ends.ensures read
          ∙ ap (λ n. c.tree_ends-done.result || some_both read ends n) c.requires.counted;
    }
