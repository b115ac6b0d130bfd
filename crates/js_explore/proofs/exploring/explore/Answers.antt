-- Where no limit was passed, all goals were taken.
use Rattle.std.proofs.Common.{length, ap, sym, ◌∙◌, arith, Result, Ok, Err, IfOk}
use Rattle.search_laws.proofs.Whole.{whole}
use Rattle.js_explore.proofs.exploring.explore.Goals as goal

if_ok : {A E : Type 0} {P Q : A → Type 0} (r : Result A E) → ((x : A) → P x → Q x) → IfOk r P → IfOk r Q
if_ok (Ok x) f h = f x h
if_ok (Err e) f h = tt

pub returns-clause-whole : goal.returns-clause-whole
returns-clause-whole g c =
    let X = g.E.Expander.expansion c.args.expander.now in
    if_ok c.explore_within.result
    (λ e same over. ap (λ f. f.taken) same
    ∙ (whole 65536 16777216 X c.args.root (omega arith) (ap (λ f. f.over) (sym same) ∙ over)).all
    ∙ ap (λ f. length f.goals) (sym same))
    c.explore_within.ensures.found
