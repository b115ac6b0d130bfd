use Rattle.std.proofs.Common.{ap, ◌∙◌}
use Rattle.js_schema.specs.View.{keywords_view}
use Rattle.js_reader.proofs.keywords.keywords.Goals as goal

pub returns-in_ok-new : goal.returns-in_ok-new
returns-in_ok-new c = ap keywords_view c.in_ok-new.ensures.ok ∙ c.in_ok-read.ensures
