use Rattle.std.proofs.Common.{map, sym, ap, ◌∙◌}
use Rattle.documents.specs.Json.{members_of}
use Rattle.js_doc.specs.Names.{rise}
use Rattle.js_doc.specs.JsonView.{view, member_view}
use Rattle.js_doc.proofs.Mapped.{names-viewed}
use Rattle.js_doc.proofs.Search.{json_names_rise-names}
use Rattle.js_doc.proofs.JsonWellFormed.{map_view-roll}
use Rattle.js_doc.proofs.json.JsonMap.from_vec.Goals as goal

pub from_vec-requires : goal.from_vec-requires
from_vec-requires c =
    ap rise (sym (names-viewed view c.args.members.items))
    ∙ sym (json_names_rise-names (map member_view c.args.members.items)) ∙ c.requires

pub returns : goal.returns
returns c =
    map_view-roll (record { members = c.from_vec.result })
    ∙ ap (λ v. members_of (map member_view v.items)) c.from_vec.ensures
