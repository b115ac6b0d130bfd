use Rattle.std.proofs.Common.{decimal, subst}
use Rattle.js_json.specs.Making.{TellsFirst}
use Rattle.js_json.proofs.DocumentsLemmas.{first_under-reverse}
use Rattle.js_json.proofs.document.in_element.Goals as goal

pub returns-in-Ok : goal.returns-in-Ok
returns-in-Ok c places later told =
    first_under-reverse (decimal c.args.index) places later c.in-NotWhole.place c.push_index.new.self
    (subst (TellsFirst places) c.in-NotWhole.is told) c.in-Ok.ensures.ok
