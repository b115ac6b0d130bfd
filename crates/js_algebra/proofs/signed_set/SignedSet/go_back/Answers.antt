-- The numbers that are left.
use Rattle.std.proofs.Common.{◌≡◌, map, take, true, ap, sym, ◌∙◌, subst}
use Rattle.js_algebra.specs.Numbers.{signed_at, are_numbers}
use Rattle.js_algebra.proofs.Numbered.{numbers-take, map-take}
use Rattle.js_algebra.proofs.signed_set.SignedSet.go_back.Goals as goal

pub invariant_of-self : goal.invariant_of-self
invariant_of-self c =
    subst (λ ks. are_numbers ks ≡ true) (sym c.truncate.ensures.keys)
    (numbers-take c.args.len c.self.inside.numbers.keys c.self.invariant)

pub returns : goal.returns
returns c =
    ap (map signed_at) c.truncate.ensures.keys ∙ map-take c.args.len c.self.inside.numbers.keys
    ∙ ap (take c.args.len) c.self.view_is
