use Rattle.std.proofs.Common.{map, chars, option_map, sym, ap, ◌∙◌}
use Rattle.documents.specs.Json.{lookup}
use Rattle.js_doc.specs.JsonView.{view, member_view}
use Rattle.js_doc.specs.declared.json.JsonMap.{out-JsonMap}
use Rattle.js_doc.proofs.Mapped.{find_in-viewed, seen_through}
use Rattle.js_doc.proofs.Search.{json_lookup-find_in}
use Rattle.js_doc.proofs.JsonWellFormed.{map_view-out}
use Rattle.js_doc.proofs.json.JsonMap.get.Goals as goal

pub returns : goal.returns
returns c =
    let word = chars c.args.name.now in
    let items = (out-JsonMap c.args.self.now).members.members.items in
    seen_through view c.get.result ∙ ap (option_map view) c.get.ensures ∙ find_in-viewed view word items
    ∙ sym (ap (lookup word) (map_view-out c.args.self.now) ∙ json_lookup-find_in word (map member_view items))
