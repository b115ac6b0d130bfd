use Rattle.std.proofs.Common.{◌≡◌, ◌∙◌, subst, true}
use Rattle.patterns.specs.CharSet.{are_ranges}
use Rattle.js_pattern.specs.Ranges.{FirstWithin}
use Rattle.js_pattern.proofs.SetOps.{none_empty}
use Rattle.js_pattern.proofs.char_set.CharSet.first.Goals as goal

pub returns-clause-none : goal.returns-clause-none
returns-clause-none c =
    let now = c.deref-5.ensures.value ∙ c.self.view_is in
    none_empty c.args.self.now c.first_within-5.result
    (subst (λ s. are_ranges 0 s ≡ true) c.self.view_is c.self.invariant)
    (subst (λ s. FirstWithin s 0 0x10ffff c.first_within-5.result) now c.first_within-5.ensures)
