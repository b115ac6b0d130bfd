-- The first words of either cell.
use Rattle.std.proofs.Common.{[], ◌∷◌, ◌++◌, ap₂, refl, ◌∙◌, chars, codes}
use Rattle.search_tests.proofs.SmallWords.{first_a, first_b, first_c, first_d}
use Rattle.search_tests.proofs.rounds.SmallExpander.words.Goals as goal

pub returns-then-cell-eq1 : goal.returns-then-cell-eq1
returns-then-cell-eq1 c =
    c.from_vec-then-cell-eq1.ensures ∙ c.in_ok-push.ensures.items
    ∙ ap₂ (λ xs x. xs ++ x ∷ []) c.new-words.ensures.items c.in_ok-from_text.ensures
    ∙ first_a c.args.cell c.args.count (chars (codes "a")) c.if-cell-eq1.true c.requires.count c.if-count-eq0.false refl

pub returns-then-count-eq1 : goal.returns-then-count-eq1
returns-then-count-eq1 c =
    c.from_vec-then-count-eq1.ensures ∙ c.in_ok-push-2.ensures.items
    ∙ ap₂ (λ xs x. xs ++ x ∷ []) c.new-words.ensures.items c.in_ok-from_text-2.ensures
    ∙ first_b c.args.cell c.args.count (chars (codes "b")) c.requires.cell c.if-cell-eq1.false c.if-count-eq1.true refl

pub returns-then-count-eq2 : goal.returns-then-count-eq2
returns-then-count-eq2 c =
    c.from_vec-then-count-eq2.ensures ∙ c.in_ok-push-3.ensures.items
    ∙ ap₂ (λ xs x. xs ++ x ∷ [])
    (c.in_ok-push-2.ensures.items
    ∙ ap₂ (λ xs x. xs ++ x ∷ []) c.new-words.ensures.items c.in_ok-from_text-2.ensures) c.in_ok-from_text-3.ensures
    ∙ first_c c.args.cell c.args.count (chars (codes "b")) (chars (codes "c")) c.requires.cell c.if-cell-eq1.false
    c.if-count-eq2.true refl refl

pub returns : goal.returns
returns c =
    c.from_vec-2.ensures ∙ c.in_ok-push-4.ensures.items
    ∙ ap₂ (λ xs x. xs ++ x ∷ [])
    (c.in_ok-push-3.ensures.items
    ∙ ap₂ (λ xs x. xs ++ x ∷ [])
    (c.in_ok-push-2.ensures.items
    ∙ ap₂ (λ xs x. xs ++ x ∷ []) c.new-words.ensures.items c.in_ok-from_text-2.ensures) c.in_ok-from_text-3.ensures)
    c.in_ok-from_text-4.ensures
    ∙ first_d c.args.cell c.args.count (chars (codes "b")) (chars (codes "c")) (chars (codes "d")) c.requires.cell
    c.if-cell-eq1.false c.requires.count c.if-count-eq0.false c.if-count-eq1.false c.if-count-eq2.false refl refl refl
