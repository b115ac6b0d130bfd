use Rattle.std.proofs.Common.{rules, ℕ, ◌≡◌, ◌∙◌, ◌+◌, ◌∷◌, [], ◌&&◌, refl, sym, ap}
use Rattle.std.proofs.lemmas.Result.{on_ok_weaker}
use Rattle.patterns.specs.Tree.{one_of, repeated}
use Rattle.word_states.specs.Position.{sets_of, sets_in}
use Rattle.word_states.specs.Classes.{are_alike}
use Rattle.js_pattern.specs.declared.re.Re.{the_lemmas}
use Rattle.js_pattern.specs.View.{view}
use Rattle.js_pattern_positions.proofs.Items.{rest, rest-tree}
use Rattle.js_automaton.proofs.AlikeLemmas.{alike-append, alike-copies}
use Rattle.js_automaton.proofs.DividerLemmas.{alike-added}
use Rattle.js_automaton.proofs.dividers.+add.Goals as goal

pub add_list-loop-re-preserved : goal.add_list-loop-re-preserved
add_list-loop-re-preserved t c = λ x y.
    alike-added c.loop-re.sets.items c.add_tree.new.sets.items (sets_of (view c.re-item.result))
    (sets_in (rest c.as_slice-re-items.result.now (c.loop-re.re-index + 1))) x y (c.in_ok-add_tree.ensures x y)
    ∙ sym (ap (λ ts. are_alike c.loop-re.sets.items x y && are_alike (sets_in ts) x y)
    (rest-tree c.as_slice-re-items.result.now c.loop-re.re-index c.re-item.result c.loop-re-test.true c.re-item.is))
    ∙ c.loop-re.invariant x y

seen : (t : ℕ) (c : goal.add_tree-In_ok-push-in-Set t) → view c.args.re.now ≡ one_of c.in-Set.set
seen t c = ap view c.in-Set.is ∙ search (rules, the_lemmas)

pub add_tree-returns-in_ok-push-in-Set : goal.add_tree-returns-in_ok-push-in-Set
add_tree-returns-in_ok-push-in-Set t c = λ x y.
    ap (λ ss. are_alike ss x y) c.in_ok-push-in-Set.ensures.items
    ∙ alike-append c.args.sets.now.items (c.in_ok-copy-in-Set.field-0 ∷ []) x y
    ∙ ap (λ s. are_alike c.args.sets.now.items x y && are_alike (s ∷ []) x y) c.in_ok-copy-in-Set.ensures
    ∙ sym (ap (λ z. are_alike c.args.sets.now.items x y && are_alike (sets_of z) x y) (seen t c))

pub add_tree-returns-then-is_copied : goal.add_tree-returns-then-is_copied
add_tree-returns-then-is_copied t c =
    let seen : view c.args.re.now ≡ repeated (view c.in-Repeat.inner.value) c.in-Repeat.low c.in-Repeat.high =
    ap view c.in-Repeat.is ∙ search (rules, the_lemmas) in
    on_ok_weaker c.add_tree.result
    (λ e x y. e x y
    ∙ ap (λ r. are_alike c.args.sets.now.items x y && are_alike (sets_of (view r)) x y) c.deref.ensures
    ∙ sym (ap (λ b. are_alike c.args.sets.now.items x y && b)
    (ap (λ z. are_alike (sets_of z) x y) seen
    ∙ alike-copies c.in-Repeat.low c.in-Repeat.high (sets_of (view c.in-Repeat.inner.value)) x y
    (c.if-is_copied.ensures.0 refl))))
    c.add_tree.ensures
