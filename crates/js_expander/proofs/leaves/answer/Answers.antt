-- The leaf of the kind.
use Rattle.std.proofs.Common.{◌≡◌, Ok, IfOk, sym, subst}
use Rattle.js_algebra.specs.View.{kind_view}
use Rattle.js_expander.specs.Found.{finders, leaf_of}
use Rattle.js_expander.specs.Answers.{answer_view}
use Rattle.js_expander.proofs.leaves.answer.Goals as goal

pub returns-in_ok-null_alternatives-in-Null : goal.returns-in_ok-null_alternatives-in-Null
returns-in_ok-null_alternatives-in-Null c =
    let b = c.args.branch.now in
    let T = c.args.core.now.positions in
    subst (λ k. answer_view (Ok c.in_ok-null_alternatives-in-Null.field-0) ≡ leaf_of T (kind_view k) b.id.number b.set)
    (sym c.in-Null.is) (c.in_ok-null_alternatives-in-Null.ensures (finders T) T)

pub returns-in_ok-truth_alternatives-in-Boolean : goal.returns-in_ok-truth_alternatives-in-Boolean
returns-in_ok-truth_alternatives-in-Boolean c =
    let b = c.args.branch.now in
    let T = c.args.core.now.positions in
    subst (λ k. answer_view (Ok c.in_ok-truth_alternatives-in-Boolean.field-0)
    ≡ leaf_of T (kind_view k) b.id.number b.set)
    (sym c.in-Boolean.is) (c.in_ok-truth_alternatives-in-Boolean.ensures (finders T))

pub returns-in-Number : goal.returns-in-Number
returns-in-Number c =
    let b = c.args.branch.now in
    subst (λ k. IfOk c.number_answer.result (λ a. answer_view a
    ≡ leaf_of c.args.core.now.positions (kind_view k) b.id.number b.set))
    (sym c.in-Number.is) c.number_answer.ensures

pub returns-in-Text : goal.returns-in-Text
returns-in-Text c =
    let b = c.args.branch.now in
    subst (λ k. IfOk c.string_answer.result (λ a. answer_view a
    ≡ leaf_of c.args.core.now.positions (kind_view k) b.id.number b.set))
    (sym c.in-Text.is) c.string_answer.ensures

pub returns-in-Array : goal.returns-in-Array
returns-in-Array c =
    let b = c.args.branch.now in
    subst (λ k. IfOk c.array_answer.result (λ a. answer_view a
    ≡ leaf_of c.args.core.now.positions (kind_view k) b.id.number b.set))
    (sym c.in-Array.is) c.array_answer.ensures

pub returns-in-Object : goal.returns-in-Object
returns-in-Object c =
    let b = c.args.branch.now in
    subst (λ k. IfOk c.object_answer.result (λ a. answer_view a
    ≡ leaf_of c.args.core.now.positions (kind_view k) b.id.number b.set))
    (sym c.in-Object.is) c.object_answer.ensures
