-- The nodes of one member of a value.
use Rattle.std.specs.Prelude.{ℕ, List}
use Rattle.documents.specs.Document.{Document}
use Rattle.positions.specs.Position.{Has}
use Rattle.normal_forms.specs.Nodes.{Maker, node, both, above}
use Rattle.normal_forms.specs.Values.{value_node, member_of}

abbrev pub member_maker : List ℕ × Document → Maker
member_maker m = both (node (Has m.0)) (above (member_of m.0) (value_node m.1))
