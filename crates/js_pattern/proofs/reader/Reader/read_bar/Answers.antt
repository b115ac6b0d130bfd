use Rattle.std.proofs.Common.{◌∙◌, ◌+◌, ap, sym, refl}
use Rattle.js_pattern.specs.Progress.{part, parts, outcome}
use Rattle.js_pattern.proofs.Steps.{after_bar}
use Rattle.js_pattern.proofs.reader.Reader.read_bar.Goals as goal

pub returns-clause-steps : goal.returns-clause-steps
returns-clause-steps c =
    let outers = parts c.args.self.now.outers.items in
    after_bar outers (part c.args.self.now.level) c.args.at 124 c.args.rest.now refl
    ∙ ap (λ p. outcome outers p (c.args.at + 1 + 0) c.args.rest.now) (sym c.in_ok-divide.ensures.part)
