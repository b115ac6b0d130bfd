use Rattle.std.proofs.Common.{arith, ◌∙◌, ap}
use Rattle.schemas.specs.Schema.{lists, one}
use Rattle.js_valid.specs.Parts.{of_listed}
use Rattle.js_valid.proofs.RequestLaws.{of_listed-at, of_listed-past}
use Rattle.js_valid.proofs.ask.listed.Goals as goal

pub returns-then-place-entries : goal.returns-then-place-entries
returns-then-place-entries c =
    of_listed-at c.as_slice-entries.result.now (lists one c.args.rest) c.args.place c.if-place-entries.true
    ∙ ap (λ es. of_listed es (lists one c.args.rest) c.args.place) c.as_slice-entries.ensures

pub returns : goal.returns
returns c =
    of_listed-past c.as_slice-entries.result.now (lists one c.args.rest) c.args.place (omega
    (arith, c.if-place-entries.false))
    ∙ ap (λ es. of_listed es (lists one c.args.rest) c.args.place) c.as_slice-entries.ensures
