use Rattle.std.proofs.Common.{map, sym, ap, ◌∙◌}
use Rattle.documents.specs.Document.{members_of}
use Rattle.js_doc.specs.View.{member_view}
use Rattle.js_doc.proofs.WellFormed.{map_view-out}
use Rattle.js_doc.proofs.document.DocMap.as_slice.Goals as goal

pub returns-clause-view : goal.returns-clause-view
returns-clause-view c = ap (λ l. members_of (map member_view l)) c.as_slice.ensures ∙ sym (map_view-out c.args.self.now)
