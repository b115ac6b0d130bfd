use Rattle.std.proofs.Common.{ap, ◌∙◌}
use Rattle.documents.specs.Json as J
use Rattle.js_json.proofs.TreeReading.{view-Members}
use Rattle.js_json.proofs.json_reader.JsonMade.object.Goals as goal

pub returns-clause-ok : goal.returns-clause-ok
returns-clause-ok c =
    view-Members c.in_ok-members_from.field-0 ∙ ap J.object c.in_ok-members_from.ensures.ok
