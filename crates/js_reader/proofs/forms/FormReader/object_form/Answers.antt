use Rattle.std.proofs.Common.{option_map, sym, ap, ◌∙◌}
use Rattle.schemas.specs.Entries.{number_of}
use Rattle.js_doc.specs.JsonView.{view, map_view}
use Rattle.js_walk.specs.FileView.{root_of}
use Rattle.js_reader.specs.NumbersView.{numbered, pointer_at}
use Rattle.js_reader.proofs.FormsLemmas.{object_form-asks}
use Rattle.js_reader.proofs.forms.FormReader.object_form.Goals as goal

pub returns-in_ok-keywords-in-None : goal.returns-in_ok-keywords-in-None
returns-in_ok-keywords-in-None c =
    let none = sym c.value_of.ensures ∙ ap (option_map (λ j. view j.now)) c.in-None.is in
    let numbers = ap (λ n. number_of (numbered n)) c.new-object.ensures.numbers in
    object_form-asks (root_of c.args.self.now.file.now) (number_of (numbered c.args.self.now.numbers.now)) _ _ numbers
    (pointer_at c.args.self.now.numbers.now c.args.pointer) _ (map_view c.args.members.now) _
    c.in_ok-keywords-in-None.field-0.value none c.in_ok-keywords-in-None.ensures c.new-object.ensures.place
    c.new-object.ensures.members
