use Rattle.std.proofs.Common.{◌∙◌, ap, sym, arith}
use Rattle.std.proofs.lemmas.Bool.{le-ltb}
use Rattle.js_valid.specs.Parts.{flag}
use Rattle.js_valid.proofs.BitsLaws.{bit_read, length-flags_of}
use Rattle.js_valid.proofs.PlanLaws.{flag-past}
use Rattle.js_valid.proofs.verdicts.Verdicts.holds.Goals as goal

pub returns-then-place-self : goal.returns-then-place-self
returns-then-place-self c =
    bit_read c.self.inside.words.items c.self.inside.len c.args.entry c.index.result.now
    c.if-place-self.true c.self.invariant c.index.ensures
    ∙ ap (λ bs. flag bs c.args.entry) c.self.view_is

pub returns-else-place-self : goal.returns-else-place-self
returns-else-place-self c =
    le-ltb c.args.entry c.self.inside.len c.if-place-self.false
    ∙ sym (flag-past _ c.args.entry
    (omega (arith, length-flags_of c.self.inside.words.items c.self.inside.len, c.if-place-self.false)))
    ∙ ap (λ bs. flag bs c.args.entry) c.self.view_is
