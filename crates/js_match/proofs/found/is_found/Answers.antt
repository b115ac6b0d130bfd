use Rattle.std.proofs.Common.{rules, ◌≡◌, ◌∙◌, ap}
use Rattle.patterns.specs.Decision.{finds}
use Rattle.js_pattern.specs.View.{view}
use Rattle.js_match.proofs.WalkLaws as W
use Rattle.js_match.proofs.found.is_found.Goals as goal

pub returns : goal.returns
returns c =
    let word : c.in_ok-letters.letters.items ≡ c.args.word.now = c.in_ok-letters.ensures ∙ c.as_text.ensures.text in
    W.ok_then c.is_in.result _ _ (λ b e. e ∙ ap (finds (view c.args.re.now)) word) (search rules)
