use Rattle.std.proofs.Common.{◌∙◌, ◌++◌, ap}
use Rattle.js_schema.specs.View.{pattern_properties_view}
use Rattle.js_match.specs.Matching.{matches}
use Rattle.js_valid.specs.Parts.{of_named}
use Rattle.js_valid.proofs.ask.add_matching.Goals as goal

pub returns : goal.returns
returns c h =
    c.add_found.ensures h
    ∙ ap (λ w. c.args.found.now.items ++ of_named (λ t. matches t w) (pattern_properties_view c.args.list.now))
    (c.deref.ensures.value ∙ c.in_ok-letters.ensures ∙ c.as_text.ensures.text)
