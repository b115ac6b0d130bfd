use Rattle.std.proofs.Common.{map, chars, option_map, sym, ap, ◌∙◌}
use Rattle.documents.specs.Document.{lookup}
use Rattle.js_doc.specs.View.{view, member_view}
use Rattle.js_doc.specs.declared.document.DocMap.{out-DocMap}
use Rattle.js_doc.proofs.Mapped.{find_in-viewed, seen_through}
use Rattle.js_doc.proofs.Search.{lookup-find_in}
use Rattle.js_doc.proofs.WellFormed.{map_view-out}
use Rattle.js_doc.proofs.document.DocMap.get.Goals as goal

pub returns : goal.returns
returns c =
    let word = chars c.args.name.now in
    let items = (out-DocMap c.args.self.now).members.members.items in
    seen_through view c.get.result ∙ ap (option_map view) c.get.ensures ∙ find_in-viewed view word items
    ∙ sym (ap (lookup word) (map_view-out c.args.self.now) ∙ lookup-find_in word (map member_view items))
