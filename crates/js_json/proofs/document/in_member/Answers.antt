use Rattle.std.proofs.Common.{[], ◌∷◌, ◌++◌, subst, ap, ◌∙◌}
use Rattle.js_json.specs.Making.{TellsFirst}
use Rattle.js_json.proofs.DocumentsLemmas.{first_under-reverse}
use Rattle.js_json.proofs.document.in_member.Goals as goal

pub returns-in-Ok : goal.returns-in-Ok
returns-in-Ok c places later told =
    first_under-reverse c.args.name.now places later c.in-NotWhole.place c.push_name.new.self
    (subst (TellsFirst places) c.in-NotWhole.is told)
    (c.in-Ok.ensures.ok ∙ ap (λ n. c.in-NotWhole.place ++ n ∷ []) c.as_text.ensures.text)
