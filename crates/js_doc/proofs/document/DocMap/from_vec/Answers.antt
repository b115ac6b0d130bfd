use Rattle.std.proofs.Common.{map, sym, ap, ◌∙◌}
use Rattle.documents.specs.Document.{members_of}
use Rattle.js_doc.specs.Names.{rise}
use Rattle.js_doc.specs.View.{view, member_view}
use Rattle.js_doc.proofs.Mapped.{names-viewed}
use Rattle.js_doc.proofs.Search.{names_rise-names}
use Rattle.js_doc.proofs.WellFormed.{map_view-roll}
use Rattle.js_doc.proofs.document.DocMap.from_vec.Goals as goal

pub from_vec-requires : goal.from_vec-requires
from_vec-requires c =
    ap rise (sym (names-viewed view c.args.members.items))
    ∙ sym (names_rise-names (map member_view c.args.members.items)) ∙ c.requires

pub returns : goal.returns
returns c =
    map_view-roll (record { members = c.from_vec.result })
    ∙ ap (λ v. members_of (map member_view v.items)) c.from_vec.ensures
