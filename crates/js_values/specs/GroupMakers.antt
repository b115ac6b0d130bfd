-- The groups of an `enum` one by one, as the program makes them.
use Rattle.std.specs.Prelude.{List, [], ◌∷◌, cond, not}
use Rattle.std.specs.List.{filter_map}
use Rattle.documents.specs.Tests.{some}
use Rattle.documents.specs.Kind.{Null}
use Rattle.documents.specs.Document.{Document}
use Rattle.positions.specs.Position.{Types}
use Rattle.normal_forms.specs.Nodes.{Maker, nothing, node}
use Rattle.normal_forms.specs.Values.{value_node}
use Rattle.normal_forms.specs.KeywordNodes.{is_null, is_container, truth_in, truths}

abbrev pub null_maker : List Document → Maker
null_maker ds = cond (some is_null ds) (node (Types (Null ∷ []))) nothing

abbrev pub truth_maker : List Document → Maker
truth_maker ds = truths (some not (filter_map truth_in ds)) (some (λ b. b) (filter_map truth_in ds))

abbrev pub container_maker : Document → Maker
container_maker d = cond (is_container d) (value_node d) nothing
