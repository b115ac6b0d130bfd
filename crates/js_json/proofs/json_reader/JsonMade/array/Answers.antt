use Rattle.std.proofs.Common.{ap, ◌∙◌}
use Rattle.documents.specs.Json as J
use Rattle.js_json.proofs.TreeReading.{view-List}
use Rattle.js_json.proofs.json_reader.JsonMade.array.Goals as goal

pub returns : goal.returns
returns c = view-List c.from_vec.result ∙ ap J.array c.from_vec.ensures
