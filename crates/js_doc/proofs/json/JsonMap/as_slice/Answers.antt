use Rattle.std.proofs.Common.{map, sym, ap, ◌∙◌}
use Rattle.documents.specs.Json.{members_of}
use Rattle.js_doc.specs.JsonView.{member_view}
use Rattle.js_doc.proofs.JsonWellFormed.{map_view-out}
use Rattle.js_doc.proofs.json.JsonMap.as_slice.Goals as goal

pub returns-clause-view : goal.returns-clause-view
returns-clause-view c = ap (λ l. members_of (map member_view l)) c.as_slice.ensures ∙ sym (map_view-out c.args.self.now)
