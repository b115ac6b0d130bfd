use Rattle.std.proofs.Common.{◌≡◌, ◌&&◌, nat_eq, eq-eqb, ne_eqb, ◌∙◌, sym, ap, ap₂}
use Rattle.std.specs.Bool.{beq}
use Rattle.std.specs.Cmp.Lexicographic.{pointwise}
use Rattle.js_cells.proofs.FlagWordLaws.{same_words}
use Rattle.js_cells.proofs.flags.are_same.Goals as goal

pub returns-then-x-y : goal.returns-then-x-y
returns-then-x-y c =
    let x = c.x.inside in
    let y = c.y.inside in
    c.eq.ensures ∙ ap₂ (pointwise nat_eq) c.as_slice-ours.ensures.value c.as_slice-theirs.ensures.value
    ∙ sym (ap (λ b. b && pointwise nat_eq x.words.items y.words.items) (eq-eqb x.len y.len c.if-x-y.true))
    ∙ same_words x.words.items y.words.items x.len y.len c.x.invariant.0 c.y.invariant.0 c.x.invariant.1
    c.y.invariant.1 c.x.invariant.2 c.y.invariant.2
    ∙ ap₂ (pointwise beq) c.x.view_is c.y.view_is

pub returns-else-x-y : goal.returns-else-x-y
returns-else-x-y c =
    let x = c.x.inside in
    let y = c.y.inside in
    ne_eqb x.len y.len c.if-x-y.false
    ∙ sym (ap (λ b. b && pointwise nat_eq x.words.items y.words.items) (ne_eqb x.len y.len c.if-x-y.false))
    ∙ same_words x.words.items y.words.items x.len y.len c.x.invariant.0 c.y.invariant.0 c.x.invariant.1
    c.y.invariant.1 c.x.invariant.2 c.y.invariant.2
    ∙ ap₂ (pointwise beq) c.x.view_is c.y.view_is
