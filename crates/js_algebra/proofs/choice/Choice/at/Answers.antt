-- A number of a choice is one of its list of positions.
use Rattle.std.proofs.Common.{◌≡◌, ℕ, ◌<◌, length, get_or, ap, sym, ◌∙◌, arith}
use Rattle.goals.specs.Signed.{Signed}
use Rattle.js_algebra.specs.Rules.{choice_view}
use Rattle.js_algebra.specs.declared.choice.Choice.{Choice}
use Rattle.js_algebra.proofs.Choosing.{length-each, each-at, length-only_one, only_one-at}
use Rattle.js_algebra.proofs.choice.Choice.at.Goals as goal

told : (x y : Choice) (k : ℕ) (r s : Signed) → x ≡ y → r ≡ s → ((d : Signed) → get_or (choice_view y) k d ≡ s)
    → r ≡ get_or (choice_view x) k r
told x y k r s e h f = h ∙ sym (ap (λ z. get_or (choice_view z) k r) e ∙ f r)

pub signed_at-requires : goal.signed_at-requires
signed_at-requires c =
    omega (arith, c.requires, ap (λ x. length (choice_view x)) c.in-All.is, length-each c.in-All.plus c.in-All.ps.now)

pub signed_at-requires-in-Only : goal.signed_at-requires-in-Only
signed_at-requires-in-Only c =
    omega (
      arith,
      c.requires,
      ap (λ x. length (choice_view x)) c.in-Only.is,
      length-only_one c.in-Only.index c.in-Only.ps.now,
    )

pub returns-in-All : goal.returns-in-All
returns-in-All c =
    let l : c.args.k < length c.in-All.ps.now =
    omega (arith, c.requires, ap (λ x. length (choice_view x)) c.in-All.is, length-each c.in-All.plus c.in-All.ps.now) in
    told _ _ c.args.k _ _ c.in-All.is c.signed_at.ensures (λ d. each-at c.in-All.plus c.in-All.ps.now c.args.k d l)

pub returns-in-Only : goal.returns-in-Only
returns-in-Only c =
    let l : c.args.k < length c.in-Only.ps.now =
    omega (
      arith,
      c.requires,
      ap (λ x. length (choice_view x)) c.in-Only.is,
      length-only_one c.in-Only.index c.in-Only.ps.now,
    ) in
    told _ _ c.args.k _ _ c.in-Only.is c.signed_at-in-Only.ensures
    (λ d. only_one-at c.in-Only.ps.now c.in-Only.index c.args.k d l)
