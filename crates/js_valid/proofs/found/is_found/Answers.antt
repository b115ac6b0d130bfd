use Rattle.std.proofs.Common.{◌∙◌}
use Rattle.js_pattern.specs.View.{view}
use Rattle.js_schema.specs.Patterns.{source_of}
use Rattle.js_match.proofs.FoundLaws.{matches-read}
use Rattle.js_match.proofs.WalkLaws as W
use Rattle.js_valid.proofs.found.is_found.Goals as goal

pub returns : goal.returns
returns c =
    W.ok_then c.is_in.result _ _ (λ b e. e
    ∙ matches-read (source_of c.args.pattern.now) c.args.word.now (view c.re.result.now) c.re.ensures) c.is_in.ensures
