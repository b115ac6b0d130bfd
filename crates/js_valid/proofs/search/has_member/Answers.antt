use Rattle.std.proofs.Common.{is_some, sym, ap, ◌∙◌}
use Rattle.documents.specs.Document.{lookup}
use Rattle.js_doc.specs.View.{view, map_view}
use Rattle.js_valid.proofs.SameLaws.{has_name-lookup, is_some-mapped}
use Rattle.js_valid.proofs.search.has_member.Goals as goal

pub returns : goal.returns
returns c =
    c.is_some.ensures ∙ is_some-mapped (λ d. view d.now) c.get.result ∙ ap is_some c.get.ensures
    ∙ ap (λ w. is_some (lookup w (map_view c.args.members.now))) c.as_text.ensures.text
    ∙ sym (has_name-lookup c.args.name.now (map_view c.args.members.now))
